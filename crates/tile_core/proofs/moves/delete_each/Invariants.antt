use Rattle.std.proofs.Common.{◌≡◌, drop}
use Rattle.keyspace.specs.Entries.{objects_in}
use Rattle.object_plans.specs.Moves.{without_each}
use Rattle.tile_core.proofs.moves.delete_each.Given as goal

-- what is left to take out makes the whole
abbrev pub invariant-loop-i : goal.invariant-loop-i
invariant-loop-i l = without_each l.key (drop l.i l.ids) (objects_in l.objects) ≡ without_each l.key l.ids (objects_in l.initial.objects)
