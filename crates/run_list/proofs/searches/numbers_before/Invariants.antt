use Rattle.std.proofs.Common.{◌≡◌, ◌≤◌, ◌<◌, ◌-◌, length, true, false}
use Rattle.std.specs.Prelude.{slice_index}
use Rattle.run_list.proofs.searches.numbers_before.Given as goal

abbrev pub decreases-loop-low : goal.decreases-loop-low
decreases-loop-low g l = l.high - l.low

abbrev pub invariant-loop-low : goal.invariant-loop-low
invariant-loop-low g l = record {
  order : l.low ≤ l.high;
  within : l.high ≤ length l.numbers;
  front : 0 < l.low → g.B.Before.before l.test (slice_index l.numbers (l.low - 1)) ≡ true;
  behind : l.high < length l.numbers → g.B.Before.before l.test (slice_index l.numbers l.high) ≡ false;
}
