use Rattle.std.proofs.Common.{◌≡◌, length, arith}
use Rattle.object_plans.proofs.Covering.{none_cleared}
use Rattle.object_plans.proofs.fields.are_whole.Goals as goal

pub returns : goal.returns
returns c = λ all.
    let none : length c.args.cleared.now ≡ 0 = omega (arith, c.if-len-gt0.false, c.len.ensures) in
    none_cleared c.args.fields.now c.args.given.now c.args.cleared.now none (c.are_given.ensures all)
