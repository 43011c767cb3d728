-- A pair that weighs on a list stands in it.
use Rattle.std.proofs.Common.{◌≡◌, ◌≤◌, ◌+◌, ℕ, suc, Bool, true, false, cond, refl, sym, ap, ◌∙◌, subst, List, [], ◌∷◌, arith}
use Rattle.std.specs.Prelude.{nat_eq, ◌&&◌}
use Rattle.std.specs.List.{sum_by, Contains}
use Rattle.std.specs.Ordering.{int_eq}
use Rattle.std.proofs.lemmas.Bool.Decides.{nat_tests, Decides-int_eq}
use Rattle.std.proofs.lemmas.List.Sums.{sum_by-append, sum_by-cons}
use Rattle.planar_geom.specs.Points.{Point, Bounds}
use Rattle.rtree.specs.Pairs.{Pair, IsWith, IsTaken}

both : (a b : Bool) → (a && b) ≡ true → (a ≡ true) × (b ≡ true)
both true b e = (refl, e)
both false b e = absurd (cc)

abbrev is_point : Point → Point → Bool
is_point p q = int_eq p.x q.x && int_eq p.y q.y

abbrev is_box : Bounds → Bounds → Bool
is_box b c = is_point b.min c.min && is_point b.max c.max

abbrev is_pair : Pair → Pair → Bool
is_pair p q = nat_eq p.id q.id && is_box p.bounds q.bounds

point_is : (p q : Point) → is_point p q ≡ true → p ≡ q
point_is p q e =
    let h = both (int_eq p.x q.x) (int_eq p.y q.y) e in
    rw ((Decides-int_eq p.x q.x).0 h.0, (Decides-int_eq p.y q.y).0 h.1) refl

box_is : (b c : Bounds) → is_box b c ≡ true → b ≡ c
box_is b c e =
    let h = both (is_point b.min c.min) (is_point b.max c.max) e in
    rw (point_is b.min c.min h.0, point_is b.max c.max h.1) refl

pair_is : (p q : Pair) → is_pair p q ≡ true → p ≡ q
pair_is p q e =
    let h = both (nat_eq p.id q.id) (is_box p.bounds q.bounds) e in
    let n : p.id ≡ q.id = grind (arith, nat_tests) in
    rw (n, box_is p.bounds q.bounds h.1) refl

point_itself : (p : Point) → is_point p p ≡ true
point_itself p = rw ((Decides-int_eq p.x p.x).1 refl, (Decides-int_eq p.y p.y).1 refl) refl

id_itself : (n : ℕ) → nat_eq n n ≡ true
id_itself n = grind (arith, nat_tests)

pair_itself : (p : Pair) → is_pair p p ≡ true
pair_itself p = rw (id_itself p.id, point_itself p.bounds.min, point_itself p.bounds.max) refl

-- where something passes a test, the list contains what passes
one_passes : (t : Pair → Bool) (ps : List Pair) → 1 ≤ sum_by (λ r. cond (t r) 1 0) ps → (r : Pair) × (t r ≡ true) × Contains ps r
one_passes t [] some = absurd (omega arith)
one_passes t (p ∷ ps) some = this_one (t p) refl (sum_by-cons (λ r. cond (t r) 1 0) p ps) (one_passes t ps)
  where
    this_one : (b : Bool) → t p ≡ b → sum_by (λ r. cond (t r) 1 0) (p ∷ ps) ≡ cond (t p) 1 0 + sum_by (λ r. cond (t r) 1 0) ps
        → (1 ≤ sum_by (λ r. cond (t r) 1 0) ps → (r : Pair) × (t r ≡ true) × Contains ps r) → (r : Pair) × (t r ≡ true) × Contains (p ∷ ps) r
    this_one true e s ih = (p, e, (0, omega arith, refl))
    this_one false e s ih =
        let none : cond {A = ℕ} (t p) 1 0 ≡ 0 = ap (λ (b : Bool). cond {A = ℕ} b 1 0) e in
        let h = ih (omega (arith, some, s, none)) in
        (h.0, h.1, (suc h.2.0, omega (arith, h.2.1), h.2.2))

-- where whatever is summed over a list is at least what the pair weighs, the pair stands there
pub stands : (p : Pair) (ps : List Pair) → ((w : Pair → ℕ) → w p ≤ sum_by w ps) → Contains ps p
stands p ps weighs =
    let w : Pair → ℕ = λ r. cond (is_pair p r) 1 0 in
    let one : w p ≡ 1 = rw (pair_itself p) refl in
    let h = one_passes (is_pair p) ps (omega (arith, weighs w, one)) in
    subst (Contains ps) (sym (pair_is p h.0 h.1)) h.2

-- what the tree's calls say, as sums

pub more_with : (p : Pair) (few many : List Pair) → IsWith p few many → (w : Pair → ℕ) → sum_by w many ≡ sum_by w few + w p
more_with p few many is w =
    let a : sum_by w few ≡ sum_by w is.front + sum_by w is.back = ap (sum_by w) is.without ∙ sum_by-append w is.front is.back in
    let b : sum_by w many ≡ sum_by w is.front + sum_by w (p ∷ is.back) = ap (sum_by w) is.with ∙ sum_by-append w is.front (p ∷ is.back) in
    let c = sum_by-cons w p is.back in
    omega (arith, a, b, c)

-- what is there is taken out
pub more_taken : (b : Bool) (p : Pair) (old new : List Pair) → Contains old p → IsTaken b p old new → (b ≡ true)
    × ((w : Pair → ℕ) → sum_by w old ≡ sum_by w new + w p)
more_taken true p old new there t = (refl, more_with p new old t)
more_taken false p old new there t = absurd (t.0 there)
