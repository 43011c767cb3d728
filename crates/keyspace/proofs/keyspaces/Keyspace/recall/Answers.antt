use Rattle.std.proofs.Common.{◌≡◌, ap, sym, subst, ◌∙◌}
use Rattle.std.specs.Prelude.{Option, Some, None, IfNone, IfSome, find}
use Rattle.world_data.specs.Worlds.{is_at}
use Rattle.world_data.specs.declared.objects.Object.{Object}
use Rattle.collection.specs.Objects.{Held, has_id}
use Rattle.keyspace.specs.Entries.{objects_in}
use Rattle.keyspace.proofs.Keys.{stands, lacks}
use Rattle.keyspace.proofs.Lookups.{found_in, found_not}
use Rattle.keyspace.proofs.keyspaces.Keyspace.recall.Goals as goal

pub returns-in-Ok-clause-none : goal.returns-in-Ok-clause-none
returns-in-Ok-clause-none c =
    let xs = c.self.inside.collections.items in
    let at = c.in-Ok.at in
    let e = c.index.result.now in
    let held = rw c.as_slice.ensures.value at c.in-Ok.ensures.held in
    let s = stands c.args.key.now xs at e c.self.invariant.0 held c.index.ensures in
    let is : find (has_id c.args.id.now) c.objects.result.now.objects ≡ find (is_at c.args.key.now c.args.id.now) (objects_in xs) = ap (λ (h : Held). find (has_id c.args.id.now) h.objects) c.objects.ensures ∙ sym (found_in c.args.key.now xs at e s c.args.id.now) in
    rw (← c.self.view_is) (subst (λ (o : Option Object). IfNone c.recall.result (o ≡ None)) is c.recall.ensures.none)

pub returns-in-Ok-clause-some : goal.returns-in-Ok-clause-some
returns-in-Ok-clause-some c =
    let xs = c.self.inside.collections.items in
    let at = c.in-Ok.at in
    let e = c.index.result.now in
    let held = rw c.as_slice.ensures.value at c.in-Ok.ensures.held in
    let s = stands c.args.key.now xs at e c.self.invariant.0 held c.index.ensures in
    let is : find (has_id c.args.id.now) c.objects.result.now.objects ≡ find (is_at c.args.key.now c.args.id.now) (objects_in xs) = ap (λ (h : Held). find (has_id c.args.id.now) h.objects) c.objects.ensures ∙ sym (found_in c.args.key.now xs at e s c.args.id.now) in
    rw (← c.self.view_is) (subst (λ (o : Option Object). IfSome c.recall.result (λ p. o ≡ Some p.now)) is c.recall.ensures.some)

pub returns-in-Err-clause-none : goal.returns-in-Err-clause-none
returns-in-Err-clause-none c =
    let xs = c.self.inside.collections.items in
    let free = rw c.as_slice.ensures.value at c.in-Err.ensures.free in
    rw (← c.self.view_is) (found_not c.args.key.now xs c.in-Err.field-0 (lacks c.args.key.now xs c.in-Err.field-0 c.self.invariant.0 free) c.args.id.now)
