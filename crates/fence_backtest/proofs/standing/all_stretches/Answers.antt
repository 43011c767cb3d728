use Rattle.std.proofs.Common.{subst}
use Rattle.fence_backtest.specs.Cuts.{IsCut}
use Rattle.fence_backtest.proofs.Tables.{are_stretches}
use Rattle.fence_backtest.proofs.standing.all_stretches.Goals as goal

pub each_stretch-requires-clause-cut : goal.each_stretch-requires-clause-cut
each_stretch-requires-clause-cut g c κs within = subst (λ n. IsCut n c.cuts_of-cuts.result.count c.cuts_of-cuts.result.size) c.len.ensures c.cuts_of-cuts.ensures

pub returns-in-Ok-Ok : goal.returns-in-Ok-Ok
returns-in-Ok-Ok g c =
    let cuts = c.cuts_of-cuts.result in
    are_stretches c.args.key.now c.args.changes.now cuts.size cuts.count c.in-Ok-Ok.list.items
    (subst (λ n. IsCut n cuts.count cuts.size) c.len.ensures c.cuts_of-cuts.ensures) (rw c.in-Ok-Ok.field-0-is at c.in-Ok-Ok.ensures)
