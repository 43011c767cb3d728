use Rattle.std.proofs.Common.{◌≡◌, true, false, [], ◌∷◌, sym, ◌∙◌}
use Rattle.world_data.specs.Filters.{are_fields, with_values, is_absent}
use Rattle.ordered_lists.specs.Reading.{either_way, on_ok_as}
use Rattle.world_data.specs.FieldLaws.{set_writes, set_inserts, set_removes, set_keeps, with_values-are_fields}
use Rattle.world_data.proofs.fields.Fields.set.Goals as goal

pub returns-then-is_none-clause-ok : goal.returns-then-is_none-clause-ok
returns-then-is_none-clause-ok c =
    let zero : is_absent (c.args.name, c.args.value) ≡ true = sym c.is_none.ensures ∙ c.if-is_none.true in
    rw (c.remove.ensures.items, ← c.self.view_is) (set_removes c.self.inside.list.items c.args.name c.args.value c.in-Ok.at c.self.invariant (rw c.as_slice.ensures.value at c.in-Ok.ensures.held) zero)

pub returns-else-is_none-clause-ok : goal.returns-else-is_none-clause-ok
returns-else-is_none-clause-ok c =
    let some : is_absent (c.args.name, c.args.value) ≡ false = sym c.is_none.ensures ∙ c.if-is_none.false in
    rw (c.write_at.ensures, ← c.self.view_is) (set_writes c.self.inside.list.items c.args.name c.args.value c.in-Ok.at c.self.invariant (rw c.as_slice.ensures.value at c.in-Ok.ensures.held) some)

pub returns-then-is_none-2-clause-ok : goal.returns-then-is_none-2-clause-ok
returns-then-is_none-2-clause-ok c =
    let zero : is_absent (c.args.name, c.args.value) ≡ true = sym c.is_none-in-Err.ensures ∙ c.if-is_none-2.true in
    rw (← c.self.view_is) (set_keeps c.self.inside.list.items c.args.name c.args.value c.in-Err.at c.self.invariant (rw c.as_slice.ensures.value at c.in-Err.ensures.free) zero)

pub invariant_of-self : goal.invariant_of-self
invariant_of-self c =
    let zero : is_absent (c.args.name, c.args.value) ≡ true = sym c.is_none.ensures ∙ c.if-is_none.true in
    rw (c.remove.ensures.items, set_removes c.self.inside.list.items c.args.name c.args.value c.in-Ok.at c.self.invariant (rw c.as_slice.ensures.value at c.in-Ok.ensures.held) zero) (with_values-are_fields c.self.inside.list.items ((c.args.name, c.args.value) ∷ []) c.self.invariant)

pub invariant_of-self-else-is_none : goal.invariant_of-self-else-is_none
invariant_of-self-else-is_none c =
    let some : is_absent (c.args.name, c.args.value) ≡ false = sym c.is_none.ensures ∙ c.if-is_none.false in
    rw (c.write_at.ensures, set_writes c.self.inside.list.items c.args.name c.args.value c.in-Ok.at c.self.invariant (rw c.as_slice.ensures.value at c.in-Ok.ensures.held) some) (with_values-are_fields c.self.inside.list.items ((c.args.name, c.args.value) ∷ []) c.self.invariant)

pub invariant_of-self-in-Err : goal.invariant_of-self-in-Err
invariant_of-self-in-Err c =
    let some : is_absent (c.args.name, c.args.value) ≡ false = sym c.is_none-in-Err.ensures ∙ c.if-is_none-2.false in
    let inserted = set_inserts c.self.inside.list.items c.args.name c.args.value c.in-Err.at c.self.invariant (rw c.as_slice.ensures.value at c.in-Err.ensures.free) some in
    either_way c.put_at.result c.put_at.new.list.items (with_values c.self.inside.list.items ((c.args.name, c.args.value) ∷ [])) c.self.inside.list.items (λ fs. are_fields fs ≡ true)
    (on_ok_as _ _ _ _ c.put_at.ensures.ok inserted) c.put_at.ensures.err
    (with_values-are_fields c.self.inside.list.items ((c.args.name, c.args.value) ∷ []) c.self.invariant) c.self.invariant

pub returns-else-is_none-2-clause-ok : goal.returns-else-is_none-2-clause-ok
returns-else-is_none-2-clause-ok c =
    let some : is_absent (c.args.name, c.args.value) ≡ false = sym c.is_none-in-Err.ensures ∙ c.if-is_none-2.false in
    rw (← c.self.view_is) (on_ok_as _ _ _ _ c.put_at.ensures.ok (set_inserts c.self.inside.list.items c.args.name c.args.value c.in-Err.at c.self.invariant (rw c.as_slice.ensures.value at c.in-Err.ensures.free) some))
