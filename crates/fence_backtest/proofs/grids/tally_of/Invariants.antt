use Rattle.std.proofs.Common.{take}
use Rattle.fence_backtest.specs.Outcomes.{IsTally}
use Rattle.fence_backtest.proofs.grids.tally_of.Given as goal

abbrev pub invariant-loop-seen : goal.invariant-loop-seen
invariant-loop-seen l = IsTally (take l.seen l.outcomes) l.counts.items
