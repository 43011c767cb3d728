use Rattle.std.proofs.Common.{◌≡◌, ◌≤◌, ◌<◌, ◌-◌, length, true, false, []}
use Rattle.std.specs.Prelude.{slice_index, slice_index_or}
use Rattle.run_list.proofs.searches.runs_before.Given as goal

abbrev pub decreases-loop-low : goal.decreases-loop-low
decreases-loop-low g l = l.high - l.low

abbrev pub invariant-loop-low : goal.invariant-loop-low
invariant-loop-low g l = record {
  order : l.low ≤ l.high;
  within : l.high ≤ length l.runs;
  front : 0 < l.low → g.B.Before.before l.test (slice_index (slice_index_or l.runs (l.low - 1) []) 0) ≡ true;
  behind : l.high < length l.runs → g.B.Before.before l.test (slice_index (slice_index_or l.runs l.high []) 0) ≡ false;
}
