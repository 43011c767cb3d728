use Rattle.keyspace.proofs.Orders.{entries_sorted}
use Rattle.keyspace.proofs.keyspaces.Keyspace.len.Goals as goal

pub returns-clause-sorted : goal.returns-clause-sorted
returns-clause-sorted c = rw (← c.self.view_is) (entries_sorted c.self.inside.collections.items c.self.invariant.0)
