use Rattle.std.specs.List.{list_all}
use Rattle.ordered_lists.specs.Lists.{ascends}
use Rattle.ordered_lists.specs.Reading.{both_of}
use Rattle.keyspace.specs.Entries.{key_before}
use Rattle.keyspace.specs.KeyOrder.{is_entry}
use Rattle.keyspace.proofs.Orders.{distinct_keys}
use Rattle.keyspace.proofs.Held.{keys_held}
use Rattle.keyspace.proofs.keyspaces.Keyspace.keys.Goals as goal

pub returns-clause-distinct : goal.returns-clause-distinct
returns-clause-distinct c =
    let xs = c.self.inside.collections.items in
    let p = both_of (ascends key_before xs) (list_all is_entry xs) c.self.invariant.0 in
    rw (← c.self.view_is) (distinct_keys xs p.0 p.1)

pub returns-clause-held : goal.returns-clause-held
returns-clause-held c =
    let xs = c.self.inside.collections.items in
    let p = both_of (ascends key_before xs) (list_all is_entry xs) c.self.invariant.0 in
    rw (← c.self.view_is) (keys_held xs p.0 p.1)
