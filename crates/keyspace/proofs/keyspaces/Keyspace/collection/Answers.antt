use Rattle.std.proofs.Common.{ap, sym, ◌∙◌}
use Rattle.collection.specs.Objects.{Held}
use Rattle.keyspace.proofs.Keys.{stands, lacks}
use Rattle.keyspace.proofs.Lookups.{of_key_in, none_of_key}
use Rattle.keyspace.proofs.keyspaces.Keyspace.collection.Goals as goal

pub returns-in-Ok-clause-some : goal.returns-in-Ok-clause-some
returns-in-Ok-clause-some c =
    let xs = c.self.inside.collections.items in
    let at = c.in-Ok.at in
    let e = c.index.result.now in
    let held = rw c.as_slice.ensures.value at c.in-Ok.ensures.held in
    let s = stands c.args.key.now xs at e c.self.invariant.0 held c.index.ensures in
    rw (← c.self.view_is) (ap (λ (h : Held). h.objects) c.objects.ensures ∙ sym (of_key_in c.args.key.now xs at e s))

pub returns-in-Err-clause-none : goal.returns-in-Err-clause-none
returns-in-Err-clause-none c =
    let xs = c.self.inside.collections.items in
    let free = rw c.as_slice.ensures.value at c.in-Err.ensures.free in
    rw (← c.self.view_is) (none_of_key c.args.key.now xs c.in-Err.field-0 (lacks c.args.key.now xs c.in-Err.field-0 c.self.invariant.0 free))
