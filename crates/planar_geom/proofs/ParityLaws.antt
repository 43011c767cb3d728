-- A polygon stands in each box that holds its points.
use Rattle.std.proofs.Common.{◌≡◌, suc, ◌%◌, Bool, true, false, refl, sym, ap, ◌∙◌, arith, ℤ, pos, ◌≤ℤ◌, ◌<ℤ◌, ◌*ℤ◌, List, [], ◌∷◌, ◌++◌}
use Rattle.std.specs.Prelude.{◌==◌, int_le, int_lt, nat_lt, count_by, length, if◌then◌else◌}
use Rattle.std.specs.List.{list_any, list_all}
use Rattle.std.proofs.lemmas.Int.{ints, by_lt_z}
use Rattle.std.proofs.lemmas.List.Folds.{list_any-append, list_all-append}
use Rattle.planar_geom.specs.Points.{Point, Bounds, in_box, same_point, same_int}
use Rattle.planar_geom.specs.Figures.{Segment, segment, segments_from, edges, ring_points, cross, above, differ, passes_right, on_segment, on_edge, is_odd, in_poly, box_of_segment, last_of, is_ring, is_poly, orient}
use Rattle.planar_geom.proofs.BoolLemmas.{and-left, and-right, or-elim}
use Rattle.planar_geom.proofs.BoxLaws.{from_le, Inside, inside, segment_box-inside}
use Rattle.planar_geom.proofs.ParityLemmas.{count_by-cons, odd-suc}
use Rattle.planar_geom.proofs.SegmentLaws.{cross-turned}
use Rattle.planar_geom.proofs.SideLemmas.{on_segment-is}
use Rattle.planar_geom.proofs.SideLaws.{rising-left, rising-right}

-- tests of order and what they tell
lt_yes : {a b : ℤ} → int_lt a b ≡ true → a <ℤ b
lt_yes {a} {b} e = grind (arith, ints)

lt_no : {a b : ℤ} → int_lt a b ≡ false → b ≤ℤ a
lt_no {a} {b} e = grind (arith, ints)

pub to_lt : {a b : ℤ} → a <ℤ b → int_lt a b ≡ true
to_lt {a} {b} h = grind (arith, ints)

pub not_lt : {a b : ℤ} → b ≤ℤ a → int_lt a b ≡ false
not_lt {a} {b} h = grind (arith, ints)

-- whether an odd number of segments passes to the right of a point
unfoldable pub odd_past : Point → List Segment → Bool
odd_past p es = count_by (passes_right p) es % 2 == 1

-- one more segment turns the parity where it passes
pub odd_past-cons : (p : Point) (e : Segment) (es : List Segment) → odd_past p (e ∷ es) ≡ differ (passes_right p e) (odd_past p es)
unfolding odd_past
odd_past-cons p e es =
    ap (λ n. n % 2 == 1) (count_by-cons (passes_right p) e es) ∙ elim (passes_right p e) as (λ b. ((if b then suc (count_by (passes_right p) es) else count_by (passes_right p) es) % 2 == 1) ≡ differ b (count_by (passes_right p) es % 2 == 1)) [ true ↦ odd-suc (count_by (passes_right p) es) | false ↦ refl ]

differ-assoc : (a b c : Bool) → differ (differ a b) c ≡ differ a (differ b c)
differ-assoc true true true = refl
differ-assoc true true false = refl
differ-assoc true false c = refl
differ-assoc false b c = refl

-- parities of two lists make that of both
pub odd_past-append : (p : Point) (es fs : List Segment) → odd_past p (es ++ fs) ≡ differ (odd_past p es) (odd_past p fs)
unfolding odd_past
odd_past-append p [] fs = refl
odd_past-append p (e ∷ es) fs =
    odd_past-cons p e (es ++ fs) ∙ ap (differ (passes_right p e)) (odd_past-append p es fs) ∙ sym (differ-assoc (passes_right p e) (odd_past p es) (odd_past p fs)) ∙ ap (λ b. differ b (odd_past p fs)) (sym (odd_past-cons p e es))

-- a segment whose ends are both above a point, or both not, passes nowhere
pub passes-level : (p q r : Point) (a : Bool) → above p q ≡ a → above p r ≡ a → passes_right p (segment q r) ≡ false
passes-level p q r true h k = rw (h, k) refl
passes-level p q r false h k = rw (h, k) refl

-- one that rises past a point left of its ends passes on the right of it, one that falls too
pub passes-rising_left : (p q r : Point) → above p q ≡ false → above p r ≡ true → p.x <ℤ q.x → p.x <ℤ r.x → passes_right p (segment q r) ≡ true
passes-rising_left p q r h k left_q left_r = rw (h, k) (to_lt (rising-left q r p (lt_no h) (lt_yes k) left_q left_r))

passes-falling_left : (p q r : Point) → above p q ≡ true → above p r ≡ false → p.x <ℤ q.x → p.x <ℤ r.x → passes_right p (segment q r) ≡ true
passes-falling_left p q r h k left_q left_r =
    let turned : pos 0 <ℤ cross r q p = rising-left r q p (lt_no k) (lt_yes h) left_r left_q in
    let right_side : cross q r p <ℤ pos 0 = omega (arith, ints, cross-turned r q p) in
    rw (h, k) (to_lt right_side)

-- and one past a point that is not left of its ends does not
passes-rising_right : (p q r : Point) → above p q ≡ false → above p r ≡ true → q.x ≤ℤ p.x → r.x ≤ℤ p.x → passes_right p (segment q r) ≡ false
passes-rising_right p q r h k right_q right_r =
    let high : p.y <ℤ r.y = lt_yes k in
    let not_left : cross q r p ≤ℤ pos 0 = rising-right q r p (lt_no h) (omega (arith, ints)) right_q right_r in
    rw (h, k) (not_lt not_left)

pub passes-falling_right : (p q r : Point) → above p q ≡ true → above p r ≡ false → q.x ≤ℤ p.x → r.x ≤ℤ p.x → passes_right p (segment q r) ≡ false
passes-falling_right p q r h k right_q right_r =
    let high : p.y <ℤ q.y = lt_yes h in
    let turned : cross r q p ≤ℤ pos 0 = rising-right r q p (lt_no k) (omega (arith, ints)) right_r right_q in
    let not_right : pos 0 ≤ℤ cross q r p = omega (arith, ints, cross-turned r q p) in
    rw (h, k) (not_lt not_right)

-- left of both its ends, a segment passes where one of them alone is above
passes-left : (p q r : Point) → p.x <ℤ q.x → p.x <ℤ r.x → passes_right p (segment q r) ≡ differ (above p q) (above p r)
passes-left p q r left_q left_r = by_tests (above p q) (above p r) refl refl
  where
    by_tests : (a b : Bool) → above p q ≡ a → above p r ≡ b → passes_right p (segment q r) ≡ differ (above p q) (above p r)
    by_tests true true h k = passes-level p q r true h k ∙ rw (h, k) refl
    by_tests false false h k = passes-level p q r false h k ∙ rw (h, k) refl
    by_tests true false h k = passes-falling_left p q r h k left_q left_r ∙ rw (h, k) refl
    by_tests false true h k = passes-rising_left p q r h k left_q left_r ∙ rw (h, k) refl

-- left of no end of it, it passes nowhere
passes-right : (p q r : Point) → q.x ≤ℤ p.x → r.x ≤ℤ p.x → passes_right p (segment q r) ≡ false
passes-right p q r right_q right_r = by_tests (above p q) (above p r) refl refl
  where
    by_tests : (a b : Bool) → above p q ≡ a → above p r ≡ b → passes_right p (segment q r) ≡ false
    by_tests true true h k = passes-level p q r true h k
    by_tests false false h k = passes-level p q r false h k
    by_tests true false h k = passes-falling_right p q r h k right_q right_r
    by_tests false true h k = passes-rising_right p q r h k right_q right_r

-- a chain left of whose points a point stands is passed as often as its ends differ in height
odd_past-left : (p q : Point) (qs : List Point) (b : Bounds) → p.x <ℤ b.min.x → list_all (in_box b) (q ∷ qs) ≡ true → odd_past p (segments_from q qs) ≡ differ (above p q) (above p (last_of q qs))
unfolding odd_past
odd_past-left p q [] b out held = elim (above p q) as (λ a. false ≡ differ a a) [ true ↦ refl | false ↦ refl ]
odd_past-left p q (r ∷ rs) b out held =
    let h = inside b q (and-left (in_box b q) (list_all (in_box b) (r ∷ rs)) held) in
    let rest = and-right (in_box b q) (list_all (in_box b) (r ∷ rs)) held in
    let k = inside b r (and-left (in_box b r) (list_all (in_box b) rs) rest) in
    odd_past-cons p (segment q r) (segments_from r rs)
    ∙ ap (λ t. differ t (odd_past p (segments_from r rs))) (passes-left p q r (omega (arith, ints)) (omega (arith, ints)))
    ∙ ap (differ (differ (above p q) (above p r))) (odd_past-left p r rs b out rest)
    ∙ chained (above p q) (above p r) (above p (last_of r rs))
  where
    chained : (a m z : Bool) → differ (differ a m) (differ m z) ≡ differ a z
    chained true true true = refl
    chained true true false = refl
    chained true false z = refl
    chained false true true = refl
    chained false true false = refl
    chained false false z = refl

-- a chain of which no segment passes is passed an even number of times
odd_past-none : (p q : Point) (qs : List Point) (b : Bounds) → ((q r : Point) → Inside b q → Inside b r → passes_right p (segment q r) ≡ false) → list_all (in_box b) (q ∷ qs) ≡ true → odd_past p (segments_from q qs) ≡ false
unfolding odd_past
odd_past-none p q [] b none held = refl
odd_past-none p q (r ∷ rs) b none held =
    let h = inside b q (and-left (in_box b q) (list_all (in_box b) (r ∷ rs)) held) in
    let rest = and-right (in_box b q) (list_all (in_box b) (r ∷ rs)) held in
    let k = inside b r (and-left (in_box b r) (list_all (in_box b) rs) rest) in
    odd_past-cons p (segment q r) (segments_from r rs)
    ∙ ap (λ t. differ t (odd_past p (segments_from r rs))) (none q r h k)
    ∙ odd_past-none p r rs b none rest

-- so are rings
rings-none : (p : Point) (rings : List (List Point)) (b : Bounds) → ((q r : Point) → Inside b q → Inside b r → passes_right p (segment q r) ≡ false) → list_all (in_box b) (ring_points rings) ≡ true → odd_past p (edges rings) ≡ false
unfolding odd_past
rings-none p [] b none held = refl
rings-none p ([] ∷ rings) b none held = rings-none p rings b none held
rings-none p ((q ∷ qs) ∷ rings) b none held =
    let both = sym (list_all-append (in_box b) (q ∷ qs) (ring_points rings)) ∙ held in
    let one = and-left (list_all (in_box b) (q ∷ qs)) (list_all (in_box b) (ring_points rings)) both in
    let rest = and-right (list_all (in_box b) (q ∷ qs)) (list_all (in_box b) (ring_points rings)) both in
    odd_past-append p (segments_from q qs) (edges rings)
    ∙ ap (λ t. differ t (odd_past p (edges rings))) (odd_past-none p q qs b none one)
    ∙ rings-none p rings b none rest

differ-same : (a : Bool) → differ a a ≡ false
differ-same true = refl
differ-same false = refl

-- points that agree stand at one height
same-height : (q r : Point) → same_point q r ≡ true → q.y ≡ r.y
same-height q r same =
    let y_same = and-right (same_int q.x r.x) (same_int q.y r.y) same in
    let low : q.y ≤ℤ r.y = from_le (and-left (int_le q.y r.y) (int_le r.y q.y) y_same) in
    let high : r.y ≤ℤ q.y = from_le (and-right (int_le q.y r.y) (int_le r.y q.y) y_same) in
    omega (arith, ints)

-- rings left of whose points a point stands are passed an even number of times
rings-left : (p : Point) (rings : List (List Point)) (b : Bounds) → p.x <ℤ b.min.x → list_all is_ring rings ≡ true → list_all (in_box b) (ring_points rings) ≡ true → odd_past p (edges rings) ≡ false
unfolding odd_past
rings-left p [] b out closed held = refl
rings-left p ([] ∷ rings) b out closed held = cc
rings-left p ((q ∷ qs) ∷ rings) b out closed held =
    let both = sym (list_all-append (in_box b) (q ∷ qs) (ring_points rings)) ∙ held in
    let one = and-left (list_all (in_box b) (q ∷ qs)) (list_all (in_box b) (ring_points rings)) both in
    let rest = and-right (list_all (in_box b) (q ∷ qs)) (list_all (in_box b) (ring_points rings)) both in
    let ring_closed = and-left (is_ring (q ∷ qs)) (list_all is_ring rings) closed in
    let ends = and-right (nat_lt 2 (length qs)) (same_point q (last_of q qs)) ring_closed in
    odd_past-append p (segments_from q qs) (edges rings)
    ∙ ap (λ t. differ t (odd_past p (edges rings))) (odd_past-left p q qs b out one ∙ ap (λ y. differ (above p q) (int_lt p.y y)) (sym (same-height q (last_of q qs) ends)) ∙ differ-same (above p q))
    ∙ rings-left p rings b out (and-right (is_ring (q ∷ qs)) (list_all is_ring rings) closed) rest

-- an odd number of edges passes only a point in each box that holds the rings
odd-inside : (p : Point) (rings : List (List Point)) (b : Bounds) → list_all is_ring rings ≡ true → list_all (in_box b) (ring_points rings) ≡ true → is_odd rings p ≡ true → Inside b p
unfolding odd_past
odd-inside p rings b closed held odd = record {
  left = by_lt_z p.x b.min.x (λ out. absurd (clash (rings-left p rings b out closed held))) (λ h. h);
  right = by_lt_z b.max.x p.x (λ out. absurd (clash (rings-none p rings b (λ q r h k. passes-right p q r (omega (arith, ints, out, h.right)) (omega (arith, ints, out, k.right))) held))) (λ h. h);
  bottom = by_lt_z p.y b.min.y (λ out. absurd (clash (rings-none p rings b (λ q r h k. passes-level p q r true (to_lt {a = p.y} {b = q.y} (omega (arith, ints, out, h.bottom))) (to_lt {a = p.y} {b = r.y} (omega (arith, ints, out, k.bottom)))) held))) (λ h. h);
  top = by_lt_z b.max.y p.y (λ out. absurd (clash (rings-none p rings b (λ q r h k. passes-level p q r false (not_lt {a = p.y} {b = q.y} (omega (arith, ints, out, h.top))) (not_lt {a = p.y} {b = r.y} (omega (arith, ints, out, k.top)))) held))) (λ h. h);
}
  where
    clash : odd_past p (edges rings) ≡ false → ⊥
    clash even = let both : true ≡ false = sym odd ∙ even in cc

-- a point on a chain is in each box that holds the chain
pub on_chain-inside : (p q : Point) (qs : List Point) (b : Bounds) → list_all (in_box b) (q ∷ qs) ≡ true → list_any (on_segment p) (segments_from q qs) ≡ true → Inside b p
on_chain-inside p q [] b held on = absurd (let no : false ≡ true = on in cc)
on_chain-inside p q (r ∷ rs) b held on =
    let h = inside b q (and-left (in_box b q) (list_all (in_box b) (r ∷ rs)) held) in
    let rest = and-right (in_box b q) (list_all (in_box b) (r ∷ rs)) held in
    let k = inside b r (and-left (in_box b r) (list_all (in_box b) rs) rest) in
    or-elim (on_segment p (segment q r)) (list_any (on_segment p) (segments_from r rs)) on
    (λ on_first. segment_box-inside b (segment q r) p h k (inside (box_of_segment (segment q r)) p (and-left (in_box (box_of_segment (segment q r)) p) (int_le (orient q r p *ℤ orient q r p) (pos 0)) (sym (on_segment-is p (segment q r)) ∙ on_first))))
    (λ on_rest. on_chain-inside p r rs b rest on_rest)

on_edge-inside : (p : Point) (rings : List (List Point)) (b : Bounds) → list_all (in_box b) (ring_points rings) ≡ true → on_edge rings p ≡ true → Inside b p
on_edge-inside p [] b held on = absurd (let no : false ≡ true = on in cc)
on_edge-inside p ([] ∷ rings) b held on = on_edge-inside p rings b held on
on_edge-inside p ((q ∷ qs) ∷ rings) b held on =
    let both = sym (list_all-append (in_box b) (q ∷ qs) (ring_points rings)) ∙ held in
    or-elim (list_any (on_segment p) (segments_from q qs)) (on_edge rings p) (sym (list_any-append (on_segment p) (segments_from q qs) (edges rings)) ∙ on)
    (λ on_first. on_chain-inside p q qs b (and-left (list_all (in_box b) (q ∷ qs)) (list_all (in_box b) (ring_points rings)) both) on_first)
    (λ on_rest. on_edge-inside p rings b (and-right (list_all (in_box b) (q ∷ qs)) (list_all (in_box b) (ring_points rings)) both) on_rest)

-- a point of a polygon is in each box that holds the polygon's points
pub in_poly-inside : (p : Point) (rings : List (List Point)) (b : Bounds) → is_poly rings ≡ true → list_all (in_box b) (ring_points rings) ≡ true → in_poly rings p ≡ true → Inside b p
in_poly-inside p rings b poly held is_in =
    or-elim (on_edge rings p) (is_odd rings p) is_in
    (λ on. on_edge-inside p rings b held on)
    (λ odd. odd-inside p rings b (and-right (nat_lt 0 (length rings)) (list_all is_ring rings) poly) held odd)
