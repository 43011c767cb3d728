use Rattle.std.proofs.Common.{length}
use Rattle.keyspace.specs.Entries.{objects_in}
use Rattle.tile_core.specs.Dues.{IsTaken, HaveRoom}
use Rattle.tile_core.proofs.dues.take_due.Given as goal

abbrev pub decreases-loop-gone : goal.decreases-loop-gone
decreases-loop-gone g l = length (objects_in l.objects)

abbrev pub invariant-loop-gone : goal.invariant-loop-gone
invariant-loop-gone g l = record {
  taken : IsTaken (objects_in l.initial.objects) l.now l.total (objects_in l.objects) l.gone.held.items l.gone.length l.gone.weight;
  room : HaveRoom l.objects l.gone.held.items;
}
