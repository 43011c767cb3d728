use Rattle.std.proofs.Common.{sym}
use Rattle.keyspace.proofs.Dues.{least_found}
use Rattle.keyspace.proofs.keyspaces.Keyspace.least_due.Goals as goal

pub soonest-requires : goal.soonest-requires
soonest-requires c = rw c.as_slice.ensures.value c.self.invariant.1.1

pub returns-in-Some : goal.returns-in-Some
returns-in-Some c =
    let found = rw c.as_slice.ensures.value at c.in-Some.ensures in
    rw (← c.self.view_is) (sym (least_found c.self.inside.collections.items c.in-Some.field-0-0 c.in-Some.due found))
