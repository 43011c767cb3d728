-- Rings and polygons of positions that were looked at.
use Rattle.std.proofs.Common.{◌≡◌, ℕ, ◌<◌, ◌≤◌, Bool, true, false, true≢false, List, [], ◌∷◌, length, nat_lt, Result, Ok, Err, refl, sym, ap, ◌∙◌, arith}
use Rattle.std.specs.Prelude.{if◌then◌else◌}
use Rattle.std.specs.List.{list_all}
use Rattle.std.proofs.lemmas.Bool.Decides.{nat_tests}
use Rattle.serde_json.specs.Data.{Data, Items, no_items, item}
use Rattle.serde_json.specs.View.{items_view}
use Rattle.serde_json.specs.declared.value.Value.{Value}
use Rattle.planar_geom.specs.Points.{Point}
use Rattle.planar_geom.specs.Figures.{is_ring, poly_of}
use Rattle.geo_text.specs.declared.faults.GeoFault.{GeoFault}
use Rattle.geo_text.specs.declared.faults.GeoFault.TheVariants.{TooFew, BadRing, BadPosition}
use Rattle.geojson_model.proofs.FaultLaws.{ok_is, not_ok}
use Rattle.geo_text.specs.Walks.{◌>>=◌, each, numbers, array_of, positions_of, ring, rings, polygon, is_closed}

-- ---- lists of values by their length

pub one_item : (vs : List Value) → 1 ≤ length vs → length vs < 2 → numbers (items_view vs) ≡ Err BadPosition
one_item [] l m = absurd (omega (arith, l))
one_item (v ∷ []) l m = refl
one_item (v ∷ w ∷ vs) l m = absurd (omega (arith, m))

pub four_items : (vs : List Value) → 4 ≤ length vs → numbers (items_view vs) ≡ Err BadPosition
four_items [] l = absurd (omega (arith, l))
four_items (v ∷ []) l = absurd (omega (arith, l))
four_items (v ∷ w ∷ []) l = absurd (omega (arith, l))
four_items (v ∷ w ∷ u ∷ []) l = absurd (omega (arith, l))
four_items (v ∷ w ∷ u ∷ t ∷ vs) l = refl

-- ---- rings

by_test : {A : Type 0} (P : A → Type 0) (b : Bool) (x y : A) → (b ≡ true → P x) → (b ≡ false → P y) → P (if b then x else y)
by_test P true x y f g = f refl
by_test P false x y f g = g refl

closed_ring : (ps : List Point) → nat_lt (length ps) 4 ≡ false → is_closed ps ≡ true → is_ring ps ≡ true
closed_ring [] long closed = absurd (true≢false (sym closed))
closed_ring (p ∷ ps) long closed =
    let enough : nat_lt 2 (length ps) ≡ true = grind (arith, nat_tests) in
    rw (enough, closed) refl

read_ring : (found : Result (List Point × ℕ) GeoFault) (ps : List Point) (n : ℕ)
    → (found >>= λ x. if nat_lt (length x.0) 4 then Err TooFew else (if is_closed x.0 then Ok x else Err BadRing)) ≡ Ok (ps, n) → is_ring ps ≡ true
read_ring (Err f) ps n e = absurd (not_ok e)
read_ring (Ok x) ps n e = by_test (λ (r : Result (List Point × ℕ) GeoFault). r ≡ Ok (ps, n) → is_ring ps ≡ true) (nat_lt (length x.0) 4) (Err TooFew) (if is_closed x.0 then Ok x else Err BadRing)
    (λ short q. absurd (not_ok q))
    (λ long. by_test (λ (r : Result (List Point × ℕ) GeoFault). r ≡ Ok (ps, n) → is_ring ps ≡ true) (is_closed x.0) (Ok x) (Err BadRing)
    (λ closed q. let is : x.0 ≡ ps = ap (λ p. p.0) (ok_is q) in rw (← is) (closed_ring x.0 long closed))
    (λ wide q. absurd (not_ok q)))
    e

ring_is : (d : Data) (count : ℕ) (ps : List Point) (n : ℕ) → ring d count ≡ Ok (ps, n) → is_ring ps ≡ true
unfolding ring
ring_is d count ps n e = read_ring (positions_of d count) ps n e

more_rings : (first : Result (List Point × ℕ) GeoFault) (rest : ℕ → Result (List (List Point) × ℕ) GeoFault) (rs : List (List Point)) (n : ℕ)
    → ((ps : List Point) (m : ℕ) → first ≡ Ok (ps, m) → is_ring ps ≡ true) → ((m : ℕ) (qs : List (List Point)) (k : ℕ) → rest m ≡ Ok (qs, k) → list_all is_ring qs ≡ true)
    → ◌>>=◌ {B = List (List Point) × ℕ} first (λ x. ◌>>=◌ {B = List (List Point) × ℕ} (rest x.1) (λ y. Ok (x.0 ∷ y.0, y.1))) ≡ Ok (rs, n) → list_all is_ring rs ≡ true
more_rings (Err f) rest rs n one others e = absurd (not_ok e)
more_rings (Ok x) rest rs n one others e = others_too (rest x.1) refl e
  where
    others_too : (found : Result (List (List Point) × ℕ) GeoFault) → rest x.1 ≡ found → ◌>>=◌ {B = List (List Point) × ℕ} found (λ y. Ok (x.0 ∷ y.0, y.1)) ≡ Ok (rs, n) → list_all is_ring rs ≡ true
    others_too (Err f) is q = absurd (not_ok q)
    others_too (Ok y) is q =
        let all : x.0 ∷ y.0 ≡ rs = ap (λ p. p.0) (ok_is q) in
        let head : is_ring x.0 ≡ true = one x.0 x.1 refl in
        let tail : list_all is_ring y.0 ≡ true = others x.1 y.0 y.1 is in
        rw (← all, head, tail) refl

-- every ring of a walk over rings is one
pub rings_are : (ds : Items) (count : ℕ) (rs : List (List Point)) (n : ℕ) → each ring ds count ≡ Ok (rs, n) → list_all is_ring rs ≡ true
unfolding each
rings_are no_items count rs n e = let is : [] ≡ rs = ap (λ p. p.0) (ok_is e) in rw (← is) refl
rings_are (item d ds) count rs n e = more_rings (ring d count) (λ m. each ring ds m) rs n (λ ps m h. ring_is d count ps m h) (λ m qs k h. rings_are ds m qs k h) e

-- rings that are rings make a polygon, but where there is none
pub poly_by_count : (rs : List (List Point)) → list_all is_ring rs ≡ true → poly_of rs ≡ (if nat_lt (length rs) 1 then Err rs else Ok rs)
poly_by_count [] all = refl
poly_by_count (r ∷ rs) all =
    let some : nat_lt 0 (length (r ∷ rs)) ≡ true = grind (arith, nat_tests) in
    let few : nat_lt (length (r ∷ rs)) 1 ≡ false = grind (arith, nat_tests) in
    rw (all, some, few) refl

too_few : (rs back : List (List Point)) (n : ℕ) (b : Bool) → ◌≡◌ {A = Result (List (List Point)) (List (List Point))} (Err back) (if b then Err rs else Ok rs) → ◌≡◌ {A = Result (List (List Point) × ℕ) GeoFault} (if b then Err TooFew else Ok (rs, n)) (Err TooFew)
too_few rs back n true e = refl
too_few rs back n false e = absurd (cc (e))

-- rings of a walk that make no polygon are none
pub no_polygon : (d : Data) (ds : Items) (rs back : List (List Point)) (count n : ℕ) → array_of d ≡ Ok ds → rings ds count ≡ Ok (rs, n) → ◌≡◌ {A = Result (List (List Point)) (List (List Point))} (Err back) (poly_of rs) → polygon d count ≡ Err TooFew
unfolding polygon
no_polygon d ds rs back count n array read none =
    rw (array, read) (too_few rs back n (nat_lt (length rs) 1) (none ∙ poly_by_count rs (rings_are ds count rs n read)))
