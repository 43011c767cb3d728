-- The objects that a core keeps.
use Rattle.std.specs.Prelude.{◌≡◌, ℕ, ◌≤◌, true, List}
use Rattle.std.specs.List.{AllByRecursion}
use Rattle.world_data.specs.Worlds.{are_objects}
use Rattle.world_data.specs.Records.{weight}
use Rattle.world_data.specs.declared.objects.Object.{Object}
use Rattle.record_writer.specs.Lengths.{HaveFewFields}
use Rattle.object_plans.specs.declared.limits.TheConstants.{MOST_KEPT}
use Rattle.object_plans.specs.Moves.{IsAccepted, world_of}

-- the bytes of the records of a world for which there may be memory
abbrev pub most_kept : ℕ
most_kept = MOST_KEPT

-- objects in order, each of a text that has its shape and of few fields, their weight at hand; that may be more than what a command leaves
pub record AreKept (objects : List Object) (total : ℕ) : Type 0 where
  pub sorted : are_objects objects ≡ true
  pub accepted : AllByRecursion IsAccepted objects
  pub few : HaveFewFields objects
  pub weighed : total ≡ weight (world_of objects)
  pub light : total ≤ most_kept
