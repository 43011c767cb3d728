use Rattle.std.proofs.Common.{sym, ◌∙◌, ap}
use Rattle.world_data.specs.Filters.{are_fields}
use Rattle.world_data.specs.LastField.{set_last}
use Rattle.record_reader.proofs.puts.push_last.Goals as goal

pub returns-then-not-may_be_last-clause-refused : goal.returns-then-not-may_be_last-clause-refused
returns-then-not-may_be_last-clause-refused c = λ e. sym c.may_be_last.ensures ∙ c.if-not-may_be_last.true

pub returns-in-Ok-clause-ok : goal.returns-in-Ok-clause-ok
returns-in-Ok-clause-ok c =
    let may = sym c.may_be_last.ensures ∙ c.if-not-may_be_last.false in
    c.in-Ok.ensures.ok ∙ set_last c.args.fields.now c.args.field may

pub returns-in-Ok-clause-ordered : goal.returns-in-Ok-clause-ordered
returns-in-Ok-clause-ordered c =
    let may = sym c.may_be_last.ensures ∙ c.if-not-may_be_last.false in
    ap are_fields (c.in-Ok.ensures.ok ∙ set_last c.args.fields.now c.args.field may) ∙ may
