use Rattle.std.proofs.Common.{◌≡◌, ◌++◌, ◌+◌, ◌*◌, ◌≤◌, take, map, length}
use Rattle.std.specs.Prelude.{flat_map}
use Rattle.fence_backtest.specs.Cuts.{part}
use Rattle.fence_backtest.specs.Reports.{lines_of}
use Rattle.fence_backtest.specs.Outcomes.{raised_in}
use Rattle.fence_backtest.proofs.lines.push_lines.Given as goal

abbrev pub invariant-loop-at : goal.invariant-loop-at
invariant-loop-at l = record {
  text : l.into ≡ l.initial.into ++ flat_map (λ line. line) (lines_of (l.from + 1) (take l.at (part l.changes l.from (length l.outcomes))) (take l.at (map raised_in l.outcomes)));
  count : l.total ≡ length (lines_of (l.from + 1) (take l.at (part l.changes l.from (length l.outcomes))) (take l.at (map raised_in l.outcomes)));
  small : l.total ≤ 2 * l.at;
}
