use Rattle.keyspace.specs.Entries.{has_objects}
use Rattle.world_store.specs.Copies.{AreBare}
use Rattle.world_store.proofs.copies.next_held.Given as goal

abbrev pub invariant-loop-at : goal.invariant-loop-at
invariant-loop-at l = AreBare has_objects l.objects l.from l.at
