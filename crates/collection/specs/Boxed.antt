-- The boxes of objects in slots, each beside its key, as a tree holds them.
use Rattle.std.specs.Prelude.{ℕ, ◌≡◌, ◌+◌, List, All, Option, Some, None, pos}
use Rattle.std.specs.List.{sum_by}
use Rattle.planar_geom.specs.Points.{Bounds, bounds, pt}
use Rattle.planar_geom.specs.Shapes.{box_of}
use Rattle.planar_geom.specs.Nearness.{IsWholeShape}
use Rattle.world_data.specs.declared.objects.Object.{Object}
use Rattle.rtree.specs.Pairs.{Pair, pair}

-- the box of what a slot holds
abbrev pub box_in : Option Object → Bounds
box_in None = bounds (pt (pos 0) (pos 0)) (pt (pos 0) (pos 0))
box_in (Some o) = box_of o.shape

-- a key beside the box of its object
abbrev pub pair_at : (ℕ → Option Object) → ℕ → Pair
pair_at slots key = pair (box_in (slots key)) key

-- the pairs are those of these keys, each as often: whatever is summed over both is the same
abbrev pub AreBoxed : (ℕ → Option Object) → List ℕ → List Pair → Type 0
AreBoxed slots keys pairs = (weight : Pair → ℕ) → sum_by weight pairs ≡ sum_by (λ k. weight (pair_at slots k)) keys

-- a pair more
abbrev pub IsMore : Pair → List Pair → List Pair → Type 0
IsMore p few many = (weight : Pair → ℕ) → sum_by weight many ≡ sum_by weight few + weight p

-- a pair in place of another
abbrev pub IsMoved : Pair → Pair → List Pair → List Pair → Type 0
IsMoved p q old new = (weight : Pair → ℕ) → sum_by weight new + weight p ≡ sum_by weight old + weight q

-- what a slot holds has a whole shape
abbrev pub IsWholeIn : Option Object → Type 0
IsWholeIn None = Unit {0}
IsWholeIn (Some o) = IsWholeShape o.shape

-- a list with a tree of its objects' boxes: the tree's pairs are those of all objects, and each object has a whole shape
pub record AreInTree (slots : ℕ → Option Object) (keys : List ℕ) (pairs : List Pair) : Type 0 where
  pub boxed : AreBoxed slots keys pairs
  pub whole : All (λ k. IsWholeIn (slots k)) keys
