use Rattle.std.proofs.Common.{◌≡◌, ◌∙◌, ◌<◌, true, false, length, sym, arith}
use Rattle.byte_text.specs.Names.{same}
use Rattle.object_plans.proofs.Covering.{passed, stayed}
use Rattle.object_plans.proofs.fields.next_from.Goals as goal

pub returns-then-is_same-clause-next : goal.returns-then-is_same-clause-next
returns-then-is_same-clause-next c =
    let lt : c.args.at < length c.args.fields.now = omega (arith, c.requires, c.if-at-len.false, c.len.ensures.count) in
    let is : same c.name.result.now c.args.name.now ≡ true = sym c.is_same.ensures ∙ c.if-is_same.true in
    passed c.args.fields.now c.args.at c.name.result.now c.args.name.now lt c.name.ensures is

pub returns-clause-next : goal.returns-clause-next
returns-clause-next c =
    let lt : c.args.at < length c.args.fields.now = omega (arith, c.requires, c.if-at-len.false, c.len.ensures.count) in
    let is : same c.name.result.now c.args.name.now ≡ false = sym c.is_same.ensures ∙ c.if-is_same.false in
    stayed c.args.fields.now c.args.at c.name.result.now c.args.name.now lt c.name.ensures is
