-- What a walk by distance through a tree gives, told of the objects.
use Rattle.std.proofs.Common.{◌≡◌, ◌<◌, ◌≤◌, ◌+◌, ℕ, suc, Bool, true, false, cond, refl, sym, ap, ◌∙◌, List, [], ◌∷◌, ◌++◌, length, All, arith}
use Rattle.std.specs.Prelude.{Option, Some, None, is_some, nat_eq, nat_lt, nat_le, not, ◌&&◌, ◌||◌}
use Rattle.std.specs.List.{list_all, sum_by}
use Rattle.std.proofs.lemmas.Bool.Decides.{nat_tests}
use Rattle.std.proofs.lemmas.List.Elements.{All-head, All-tail}
use Rattle.std.proofs.lemmas.List.Sorted.{sum_by-IsPermutation}
use Rattle.std.proofs.lemmas.List.Sums.{sum_by-append, sum_by-cons}
use Rattle.ordered_lists.specs.Reading.{both_of}
use Rattle.planar_geom.specs.Points.{Point, box_dist2}
use Rattle.rtree.specs.Pairs.{Pair, ids}
use Rattle.rtree.specs.Near.{IsNearest}
use Rattle.world_data.specs.declared.objects.Object.{Object}
use Rattle.collection.specs.Boxed.{box_in, pair_at, AreBoxed}
use Rattle.collection.specs.Nearing.{distance_to, is_farther, AreLeft}
use Rattle.collection.specs.Meeting.{ArePassing}
use Rattle.collection.specs.Slotted.{objects_at, are_stored}
use Rattle.collection.proofs.Slots.{some_of}

-- sums whose weights are the same at each pair of a kind
sums_at : (P : Pair → Type 0) (h g : Pair → ℕ) (ps : List Pair) → All P ps → ((r : Pair) → P r → h r ≡ g r) → sum_by h ps ≡ sum_by g ps
sums_at P h g [] all each = refl
sums_at P h g (p ∷ ps) all each =
    let a = sum_by-cons h p ps in
    let b = sum_by-cons g p ps in
    let here = each p (All-head P p ps all) in
    omega (arith, a, b, here, sums_at P h g ps (All-tail P p ps all) each)

sums_of : (h g : ℕ → ℕ) (ks : List ℕ) → ((k : ℕ) → h k ≡ g k) → sum_by h ks ≡ sum_by g ks
sums_of h g [] each = refl
sums_of h g (k ∷ ks) each =
    let a = sum_by-cons h k ks in
    let b = sum_by-cons g k ks in
    omega (arith, a, b, each k, sums_of h g ks each)

no_sum : (ps : List Pair) → sum_by (λ r. 0) ps ≡ 0
no_sum [] = refl
no_sum (p ∷ ps) = let a = sum_by-cons (λ (r : Pair). 0) p ps in omega (arith, a, no_sum ps)

sum_ids : (v : ℕ → ℕ) (ps : List Pair) → sum_by v (ids ps) ≡ sum_by (λ p. v p.id) ps
sum_ids v [] = refl
sum_ids v (p ∷ ps) =
    let a = sum_by-cons v p.id (ids ps) in
    let b = sum_by-cons (λ p. v p.id) p ps in
    omega (arith, a, b, sum_ids v ps)

length_sum : (ps : List Pair) → sum_by (λ p. 1) ps ≡ length ps
length_sum [] = refl
length_sum (p ∷ ps) = let a = sum_by-cons (λ (r : Pair). 1) p ps in omega (arith, a, length_sum ps)

-- where nothing was given everything is left
pub all_left : (f : ℕ → Option Object) (keys : List ℕ) (from : Point) (pairs left : List Pair) → AreBoxed f keys pairs → left ≡ pairs → AreLeft f keys from None left
all_left f keys from pairs left boxed is = λ w. ap (sum_by w) is ∙ boxed w

-- where a sum is nothing each of its weights is
no_weight : (f : ℕ → Option Object) (from : Point) (q : ℕ → Bool) (ks : List ℕ) → are_stored f ks ≡ true → sum_by (λ k. cond (q (box_dist2 from (box_in (f k)))) 1 0) ks ≡ 0 → list_all (λ o. not (q (distance_to from o))) (objects_at f ks) ≡ true
no_weight f from q [] all none = refl
no_weight f from q (k ∷ ks) all none =
    let a = both_of (is_some (f k)) (are_stored f ks) all in
    let x = some_of (f k) a.0 in
    let s = sum_by-cons (λ k. cond (q (box_dist2 from (box_in (f k)))) 1 0) k ks in
    let here : cond (q (box_dist2 from (box_in (f k)))) 1 0 ≡ 0 = omega (arith, s, none) in
    let here' : cond (q (distance_to from x.0)) 1 0 ≡ 0 = sym (ap (λ (o : Option Object). cond (q (box_dist2 from (box_in o))) 1 0) x.1) ∙ here in
    let fails = no (q (distance_to from x.0)) here' in
    let rest = no_weight f from q ks a.1 (omega (arith, s, none)) in
    rw (x.1, fails, rest) refl
  where
    no : (b : Bool) → cond {A = ℕ} b 1 0 ≡ 0 → b ≡ false
    no false e = refl
    no true e = absurd (omega (arith, e))

-- ---- all pairs at the least distance were given

module _ (f : ℕ → Option Object) (keys : List ℕ) (from : Point) (given : Option ℕ) (old new : List Pair) (left : AreLeft f keys from given old) (d : ℕ) (before after : List ℕ) (n : IsNearest d from old new before after) where
  abbrev away : Pair → ℕ
  away r = box_dist2 from r.bounds

  abbrev key_away : ℕ → ℕ
  key_away k = box_dist2 from (box_in (f k))

  parts : (w : Pair → ℕ) → sum_by w old ≡ sum_by w n.giving.given + sum_by w new
  parts w = sym (sum_by-IsPermutation w old (n.giving.given ++ new) n.giving.whole) ∙ sum_by-append w n.giving.given new

  equal_to : (a b : ℕ) → a ≡ b → nat_eq a b ≡ true
  equal_to a b e = grind (arith, nat_tests)

  unequal : (a b : ℕ) → b < a → nat_eq a b ≡ false
  unequal a b lt = grind (arith, nat_tests)

  -- the weights of those that are given
  abbrev weigh : (Pair → ℕ) → Pair → ℕ
  weigh w r = cond (nat_eq (away r) d) (w r) 0

  sum_given : (w : Pair → ℕ) → sum_by w n.giving.given ≡ sum_by (λ k. cond (is_farther given (key_away k)) (cond (nat_eq (key_away k) d) (w (pair_at f k)) 0) 0) keys
  sum_given w =
      let a = sums_at (λ r. away r ≡ d) (weigh w) w n.giving.given n.giving.alike (λ r e. ap (λ (b : Bool). cond b (w r) 0) (equal_to (away r) d e)) in
      let b = sums_at (λ r. d < away r) (weigh w) (λ r. 0) new n.farther (λ r e. ap (λ (b : Bool). cond b (w r) 0) (unequal (away r) d e)) in
      let l : sum_by (weigh w) old ≡ sum_by (λ k. cond (is_farther given (key_away k)) (cond (nat_eq (key_away k) d) (w (pair_at f k)) 0) 0) keys = left (weigh w) in
      omega (arith, a, b, no_sum new, parts (weigh w), l)

  -- they were not given before
  pub next_farther : is_farther given d ≡ true
  next_farther = yes (is_farther given d) refl
    where
      none : (k : ℕ) → is_farther given d ≡ false → cond {A = ℕ} (is_farther given (key_away k)) (cond {A = ℕ} (nat_eq (key_away k) d) 1 0) 0 ≡ 0
      none k e = at_key (nat_eq (key_away k) d) refl
        where
          at_key : (b : Bool) → nat_eq (key_away k) d ≡ b → cond {A = ℕ} (is_farther given (key_away k)) (cond {A = ℕ} b 1 0) 0 ≡ 0
          at_key true t =
              let same : key_away k ≡ d = grind (arith, nat_tests) in
              let no : is_farther given (key_away k) ≡ false = ap (is_farther given) same ∙ e in
              rw no refl
          at_key false t = nothing (is_farther given (key_away k))
            where
              nothing : (b : Bool) → cond {A = ℕ} b 0 0 ≡ 0
              nothing true = refl
              nothing false = refl

      zeros : (ks : List ℕ) → sum_by (λ k. 0) ks ≡ 0
      zeros [] = refl
      zeros (k ∷ ks) = let a = sum_by-cons (λ (k : ℕ). 0) k ks in omega (arith, a, zeros ks)

      yes : (b : Bool) → is_farther given d ≡ b → b ≡ true
      yes true e = refl
      yes false e =
          let a : sum_by (λ r. 1) n.giving.given ≡ sum_by (λ k. cond (is_farther given (key_away k)) (cond (nat_eq (key_away k) d) 1 0) 0) keys = sum_given (λ r. 1) in
          let b = sums_of (λ k. cond (is_farther given (key_away k)) (cond (nat_eq (key_away k) d) 1 0) 0) (λ k. 0) keys (λ k. none k e) in
          absurd (omega (arith, a, b, zeros keys, length_sum n.giving.given, n.some))

  -- the numbers that were put are those of the keys at that distance
  pub next_passing : before ≡ [] → ArePassing f (λ b. nat_eq (box_dist2 from b) d) keys after
  next_passing empty v =
      let put : after ≡ ids n.giving.given = n.giving.put ∙ ap (λ (l : List ℕ). l ++ ids n.giving.given) empty in
      let a : sum_by (λ r. v r.id) n.giving.given ≡ sum_by (λ k. cond (is_farther given (key_away k)) (cond (nat_eq (key_away k) d) (v k) 0) 0) keys = sum_given (λ r. v r.id) in
      let b = sums_of (λ k. cond (is_farther given (key_away k)) (cond (nat_eq (key_away k) d) (v k) 0) 0) (λ k. cond (nat_eq (key_away k) d) (v k) 0) keys (λ k. at_key k (nat_eq (key_away k) d) refl) in
      ap (sum_by v) put ∙ sum_ids v n.giving.given ∙ a ∙ b
    where
      at_key : (k : ℕ) (b : Bool) → nat_eq (key_away k) d ≡ b → cond (is_farther given (key_away k)) (cond b (v k) 0) 0 ≡ cond b (v k) 0
      at_key k true t =
          let same : key_away k ≡ d = grind (arith, nat_tests) in
          let far : is_farther given (key_away k) ≡ true = ap (is_farther given) same ∙ next_farther in
          rw far refl
      at_key k false t = nothing (is_farther given (key_away k))
        where
          nothing : (b : Bool) → cond {A = ℕ} b 0 0 ≡ 0
          nothing true = refl
          nothing false = refl

  farther_too : (g : Option ℕ) (e : ℕ) → is_farther g d ≡ true → nat_lt d e ≡ true → is_farther g e ≡ true
  farther_too None e far lt = refl
  farther_too (Some g) e far lt = grind (arith, nat_tests)

  -- what is left is farther
  pub next_left : AreLeft f keys from (Some d) new
  next_left w =
      let w' : Pair → ℕ = λ r. cond (nat_lt d (away r)) (w r) 0 in
      let a = sums_at (λ r. away r ≡ d) w' (λ r. 0) n.giving.given n.giving.alike (λ r e. ap (λ (b : Bool). cond b (w r) 0) (not_less (away r) e)) in
      let b = sums_at (λ r. d < away r) w' w new n.farther (λ r e. ap (λ (b : Bool). cond b (w r) 0) (less (away r) e)) in
      let c = sums_of (λ k. cond (is_farther given (key_away k)) (cond (nat_lt d (key_away k)) (w (pair_at f k)) 0) 0) (λ k. cond (nat_lt d (key_away k)) (w (pair_at f k)) 0) keys (λ k. at_key k (nat_lt d (key_away k)) refl) in
      let l : sum_by w' old ≡ sum_by (λ k. cond (is_farther given (key_away k)) (cond (nat_lt d (key_away k)) (w (pair_at f k)) 0) 0) keys = left w' in
      omega (arith, a, b, c, no_sum n.giving.given, parts w', l)
    where
      not_less : (a : ℕ) → a ≡ d → nat_lt d a ≡ false
      not_less a e = grind (arith, nat_tests)

      less : (a : ℕ) → d < a → nat_lt d a ≡ true
      less a e = grind (arith, nat_tests)

      at_key : (k : ℕ) (b : Bool) → nat_lt d (key_away k) ≡ b → cond (is_farther given (key_away k)) (cond b (w (pair_at f k)) 0) 0 ≡ cond b (w (pair_at f k)) 0
      at_key k true t =
          let far : is_farther given (key_away k) ≡ true = farther_too given (key_away k) next_farther t in
          rw far refl
      at_key k false t = nothing (is_farther given (key_away k))
        where
          nothing : (b : Bool) → cond {A = ℕ} b 0 0 ≡ 0
          nothing true = refl
          nothing false = refl

  -- nothing that was not given is nearer
  pub next_least : are_stored f keys ≡ true → list_all (λ o. not (is_farther given (distance_to from o)) || nat_le d (distance_to from o)) (objects_at f keys) ≡ true
  next_least all =
      let w' : Pair → ℕ = λ r. cond (nat_lt (away r) d) 1 0 in
      let a = sums_at (λ r. away r ≡ d) w' (λ r. 0) n.giving.given n.giving.alike (λ r e. ap (λ (b : Bool). cond b 1 0) (not_less (away r) e)) in
      let b = sums_at (λ r. d < away r) w' (λ r. 0) new n.farther (λ r e. ap (λ (b : Bool). cond b 1 0) (nor_less (away r) e)) in
      let c = sums_of (λ k. cond (is_farther given (key_away k)) (cond (nat_lt (key_away k) d) 1 0) 0) (λ k. cond (is_farther given (key_away k) && nat_lt (key_away k) d) 1 0) keys (λ k. both (is_farther given (key_away k)) (nat_lt (key_away k) d)) in
      let l : sum_by w' old ≡ sum_by (λ k. cond (is_farther given (key_away k)) (cond (nat_lt (key_away k) d) 1 0) 0) keys = left w' in
      let zero : sum_by (λ k. cond (is_farther given (key_away k) && nat_lt (key_away k) d) 1 0) keys ≡ 0 = omega (arith, a, b, c, no_sum n.giving.given, no_sum new, parts w', l) in
      let none = no_weight f from (λ e. is_farther given e && nat_lt e d) keys all zero in
      turned (objects_at f keys) none
    where
      not_less : (a : ℕ) → a ≡ d → nat_lt a d ≡ false
      not_less a e = grind (arith, nat_tests)

      nor_less : (a : ℕ) → d < a → nat_lt a d ≡ false
      nor_less a e = grind (arith, nat_tests)

      both : (b c : Bool) → cond {A = ℕ} b (cond {A = ℕ} c 1 0) 0 ≡ cond {A = ℕ} (b && c) 1 0
      both true c = refl
      both false c = refl

      turned : (os : List Object) → list_all (λ o. not (is_farther given (distance_to from o) && nat_lt (distance_to from o) d)) os ≡ true → list_all (λ o. not (is_farther given (distance_to from o)) || nat_le d (distance_to from o)) os ≡ true
      turned [] h = refl
      turned (o ∷ os) h =
          let p = both_of (not (is_farther given (distance_to from o) && nat_lt (distance_to from o) d)) (list_all (λ o. not (is_farther given (distance_to from o) && nat_lt (distance_to from o) d)) os) h in
          rw (one (is_farther given (distance_to from o)) (distance_to from o) p.0, turned os p.1) refl
        where
          one : (b : Bool) (e : ℕ) → not (b && nat_lt e d) ≡ true → (not b || nat_le d e) ≡ true
          one b e h = grind (arith, nat_tests)

-- nothing is left
pub none_farther : (f : ℕ → Option Object) (keys : List ℕ) (from : Point) (given : Option ℕ) (old : List Pair) → are_stored f keys ≡ true → AreLeft f keys from given old → old ≡ [] → list_all (λ o. not (is_farther given (distance_to from o))) (objects_at f keys) ≡ true
none_farther f keys from given old all left none =
    let a : sum_by (λ (r : Pair). 1) old ≡ sum_by (λ k. cond (is_farther given (box_dist2 from (box_in (f k)))) 1 0) keys = left (λ r. 1) in
    let b : sum_by (λ (r : Pair). 1) old ≡ 0 = ap (sum_by (λ (r : Pair). 1)) none in
    no_weight f from (is_farther given) keys all (sym a ∙ b)

pub not_given_up : (b : Bool) → (b ≡ true → false ≡ true) → b ≡ false
not_given_up false up = refl
not_given_up true up = let no = up refl in absurd (cc)

-- some are given
pub next_some : (d : ℕ) (from : Point) (old new : List Pair) (after : List ℕ) (found : List Object) → length found ≡ length after → IsNearest d from old new [] after → 1 ≤ length found
next_some d from old new after found many n =
    let put : length after ≡ length (ids n.giving.given) = ap length n.giving.put in
    let as_many : length (ids n.giving.given) ≡ length n.giving.given = length-ids n.giving.given in
    omega (arith, many, put, as_many, n.some)
  where
    length-ids : (ps : List Pair) → length (ids ps) ≡ length ps
    length-ids [] = refl
    length-ids (p ∷ ps) = ap suc (length-ids ps)
