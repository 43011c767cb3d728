use Rattle.std.proofs.Common.{◌≡◌, true, false, sym, ◌∙◌, arith}
use Rattle.world_data.specs.Filters.{is_absent}
use Rattle.world_data.specs.LastField.{zero_last, only_one, behind_last}
use Rattle.record_reader.proofs.puts.may_be_last.Goals as goal

pub returns-then-is_none : goal.returns-then-is_none
returns-then-is_none c =
    let zero : is_absent (c.args.name.now, c.args.value.now) ≡ true = sym c.is_none.ensures ∙ c.if-is_none.true in
    sym (zero_last c.args.fields.now (c.args.name.now, c.args.value.now) zero)

pub returns-then-count-eq0 : goal.returns-then-count-eq0
returns-then-count-eq0 c =
    let some : is_absent (c.args.name.now, c.args.value.now) ≡ false = sym c.is_none.ensures ∙ c.if-is_none.false in
    sym (only_one c.args.fields.now (c.args.name.now, c.args.value.now) some (omega arith))

pub returns : goal.returns
returns c =
    let some : is_absent (c.args.name.now, c.args.value.now) ≡ false = sym c.is_none.ensures ∙ c.if-is_none.false in
    let named = rw c.len-count.ensures.count at c.name.ensures in
    c.is_before.ensures ∙ behind_last c.args.fields.now c.name.result.now (c.args.name.now, c.args.value.now) c.len-count.ensures.fields some (omega arith) named
