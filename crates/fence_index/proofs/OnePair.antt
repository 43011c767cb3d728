-- Pairs that come and go, as sums, and the boxes that weigh on a list.
use Rattle.std.proofs.Common.{◌≡◌, ◌≤◌, ◌+◌, ℕ, Bool, true, false, true≢false, refl, sym, ap, ◌∙◌, subst, List, [], ◌∷◌, length, length-append, arith}
use Rattle.std.specs.Prelude.{Option, Some, None}
use Rattle.std.specs.List.{sum_by, Contains}
use Rattle.planar_geom.specs.Points.{Bounds}
use Rattle.rtree.specs.Pairs.{Pair, pair, IsWith, IsTaken}
use Rattle.rtree.specs.OnePair.{stands, more_taken}
use Rattle.fence_index.specs.Held.{weight_of}

-- what the tree's calls say, as sums

-- what stands there is taken out
pub taken_out : (b : Bool) (p : Pair) (old new : List Pair) → Contains old p → IsTaken b p old new → (b ≡ true) × ((w : Pair → ℕ) → sum_by w new + w p ≡ sum_by w old)
taken_out b p old new there t = let h = more_taken b p old new there t in (h.0, λ w. sym (h.1 w))

pub length_with : (p : Pair) (few many : List Pair) → IsWith p few many → length many ≡ length few + 1
length_with p few many is =
    let a : length few ≡ length is.front + length is.back = ap length is.without ∙ length-append is.front is.back in
    let b : length many ≡ length is.front + length (p ∷ is.back) = ap length is.with ∙ length-append is.front (p ∷ is.back) in
    omega (arith, a, b)

pub none_left : (ps : List Pair) → length ps ≡ 0 → ps ≡ []
none_left [] e = refl
none_left (p ∷ ps) e = absurd (omega (arith, e))

-- a box that weighs on a list stands in it
pub box_stands : (b : Option Bounds) (x : Bounds) (n : ℕ) (ps : List Pair) → b ≡ Some x → ((w : Pair → ℕ) → weight_of w b n ≤ sum_by w ps) → Contains ps (pair x n)
box_stands b x n ps is weighs = stands (pair x n) ps (λ w. subst (λ (o : Option Bounds). weight_of w o n ≤ sum_by w ps) is (weighs w))

-- a list without a box weighs as much as before
pub none_weighs : (b : Option Bounds) (n : ℕ) (w : Pair → ℕ) → b ≡ None → weight_of w b n ≡ 0
none_weighs None n w is = refl
none_weighs (Some b) n w is = absurd (cc)

pub some_weighs : (b : Option Bounds) (x : Bounds) (n : ℕ) (w : Pair → ℕ) → b ≡ Some x → weight_of w b n ≡ w (pair x n)
some_weighs b x n w is = rw is refl

-- what was taken out is one less
pub length_taken : (b : Bool) (p : Pair) (old new : List Pair) → b ≡ true → IsTaken b p old new → length old ≡ length new + 1
length_taken true p old new e t = length_with p new old t
length_taken false p old new e t = absurd (true≢false (sym e))
