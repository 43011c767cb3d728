use Rattle.std.proofs.Common.{◌≡◌}
use Rattle.keyspace.specs.Entries.{objects_in}
use Rattle.tile_core.proofs.dues.release.Given as goal

abbrev pub invariant-loop-object : goal.invariant-loop-object
invariant-loop-object l = objects_in l.objects ≡ objects_in l.initial.objects
