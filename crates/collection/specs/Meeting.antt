-- What a search by box gives.
use Rattle.std.specs.Prelude.{ℕ, ◌≡◌, ◌≤◌, ◌+◌, ◌-◌, ◌^◌, ◌⊎◌, min, Bool, cond, List, [], Option}
use Rattle.std.specs.Prelude.{IsPermutation}
use Rattle.std.specs.Cmp.Lexicographic.{slice_cmp}
use Rattle.std.specs.List.{sum_by}
use Rattle.std.specs.List.Sorted.{IsSortedByKey}
use Rattle.std.specs.Ordering.{nat_cmp}
use Rattle.planar_geom.specs.Points.{Bounds, boxes_meet}
use Rattle.planar_geom.specs.Shapes.{box_of}
use Rattle.world_data.specs.declared.objects.Object.{Object}
use Rattle.collection.specs.Boxed.{box_in}

-- the object's box meets a box
abbrev pub meets_box : Bounds → Object → Bool
meets_box b o = boxes_meet (box_of o.shape) b

-- a count of nodes that were visited has risen, up to the greatest u64, or there is no object
abbrev pub IsVisited : List Object → ℕ → ℕ → Type 0
IsVisited objects before after = (objects ≡ []) ⊎ (min (before + 1) (2 ^ 64 - 1) ≤ after)

-- the numbers are those of the keys whose objects' boxes pass, each once: whatever is summed over both is the same
abbrev pub ArePassing : (ℕ → Option Object) → (Bounds → Bool) → List ℕ → List ℕ → Type 0
ArePassing slots test keys numbers = (weight : ℕ → ℕ) → sum_by weight numbers ≡ sum_by (λ k. cond (test (box_in (slots k))) (weight k) 0) keys

-- these are the same objects, in byte order of their ids
pub record AreInOrder (objects found : List Object) : Type 0 where
  pub moved : IsPermutation objects found
  pub order : IsSortedByKey (λ (o : Object). o.id) (slice_cmp nat_cmp) found
