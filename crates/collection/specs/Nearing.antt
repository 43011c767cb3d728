-- A walk through objects by rising distance of their boxes from a point.
use Rattle.std.specs.Prelude.{ℕ, ◌≡◌, ◌≤◌, Bool, true, false, not, cond, ◌||◌, nat_eq, nat_lt, nat_le, List, length, filter, Option, Some, None}
use Rattle.std.specs.List.{list_all, sum_by}
use Rattle.planar_geom.specs.Points.{Point, box_dist2}
use Rattle.planar_geom.specs.Shapes.{box_of}
use Rattle.rtree.specs.Pairs.{Pair}
use Rattle.world_data.specs.declared.objects.Object.{Object}
use Rattle.collection.specs.Objects.{are_by_id}
use Rattle.collection.specs.Boxed.{box_in, pair_at}
use Rattle.collection.specs.Slotted.{AreSlotted, objects_at}

-- the objects, the point from which the walk goes, and the distance, squared, of those that were given last
pub record Nearing : Type 0 where
  pub objects : List Object
  pub from : Point
  pub given : Option ℕ

-- the squared distance from a point to an object's box
abbrev pub distance_to : Point → Object → ℕ
distance_to p o = box_dist2 p (box_of o.shape)

-- what is this far away was not given yet
abbrev pub is_farther : Option ℕ → ℕ → Bool
is_farther None d = true
is_farther (Some given) d = nat_lt given d

-- the next that a walk gives: all objects at the least distance that was not given yet
pub record IsNext (d : ℕ) (old new : Nearing) (found : List Object) : Type 0 where
  pub farther : is_farther old.given d ≡ true
  pub least : list_all (λ o. not (is_farther old.given (distance_to old.from o)) || nat_le d (distance_to old.from o)) old.objects ≡ true
  pub listed : found ≡ filter (λ o. nat_eq (distance_to old.from o) d) old.objects
  pub some : 1 ≤ length found
  pub given : new.given ≡ Some d

-- what a walk answers: all were given, or those nearest
abbrev pub IsNearing : Option ℕ → Nearing → Nearing → List Object → Type 0
IsNearing None old new found = (list_all (λ o. not (is_farther old.given (distance_to old.from o))) old.objects ≡ true) × (new ≡ old)
IsNearing (Some d) old new found = IsNext d old new found

-- the pairs are those of the keys whose objects were not given yet
abbrev pub AreLeft : (ℕ → Option Object) → List ℕ → Point → Option ℕ → List Pair → Type 0
AreLeft slots keys from given pairs = (weight : Pair → ℕ)
    → sum_by weight pairs ≡ sum_by (λ k. cond (is_farther given (box_dist2 from (box_in (slots k)))) (weight (pair_at slots k)) 0) keys

-- keys of objects by id, and what is left of the walk through their boxes, unless it was given up
pub record IsNearingOf (slots : ℕ
    → Option Object) (keys : List ℕ) (from : Point) (given : Option ℕ) (given_up : Bool) (pairs : List Pair) : Type 0 where
  pub slotted : AreSlotted slots keys
  pub by_id : are_by_id (objects_at slots keys) ≡ true
  pub left : given_up ≡ false → AreLeft slots keys from given pairs
