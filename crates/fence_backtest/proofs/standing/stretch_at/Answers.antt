use Rattle.std.proofs.Common.{◌∙◌, ◌-◌, ◌*◌, ap, min}
use Rattle.fence_backtest.proofs.Tables.{if_ok_three, is_stretch_at}
use Rattle.fence_backtest.proofs.standing.stretch_at.Goals as goal

pub returns : goal.returns
returns c =
    let len = c.min.ensures ∙ ap (λ n. min c.args.size (n - c.args.at * c.args.size)) c.len-all.ensures in
    if_ok_three c.stretch_of.result _ _ _ _
    (λ s from long goes. is_stretch_at c.args.key.now c.args.changes.now c.args.size c.args.at c.min.result s c.requires len from long goes)
    c.stretch_of.ensures.place c.stretch_of.ensures.long c.stretch_of.ensures.goes
