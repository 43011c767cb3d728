use Rattle.std.proofs.Common.{arith}
use Rattle.fence_backtest.proofs.TallyLaws.{few_counted}
use Rattle.fence_backtest.proofs.grids.count_next.Goals as goal

pub overflow_add-counts : goal.overflow_add-counts
overflow_add-counts c =
    let few = few_counted c.args.outcomes.now c.args.counts.now c.args.seen c.in-Some.cell.row c.in-Some.cell.column c.if-cell-lt8.true c.if-cell-lt8-2.true c.requires.so_far in
    omega (arith, few, c.requires.fits)
