use Rattle.std.proofs.Common.{◌≤◌, ◌<◌, ◌-◌, length}
use Rattle.std.specs.Prelude.{slice_index}
use Rattle.run_list.proofs.ends.runs_up_to.Given as goal

abbrev pub decreases-loop-low : goal.decreases-loop-low
decreases-loop-low l = l.high - l.low

abbrev pub invariant-loop-low : goal.invariant-loop-low
invariant-loop-low l = record {
  order : l.low ≤ l.high;
  within : l.high ≤ length l.ends;
  front : 0 < l.low → slice_index l.ends (l.low - 1) ≤ l.i;
  behind : l.high < length l.ends → l.i < slice_index l.ends l.high;
}
