use Rattle.std.proofs.Common.{◌≤◌, ◌<◌, ◌+◌, ◌-◌, length}
use Rattle.std.specs.Prelude.{slice_index}
use Rattle.channel_hub.proofs.due_places.gone_before.Given as goal

abbrev pub decreases-loop-low : goal.decreases-loop-low
decreases-loop-low l = l.high - l.low

abbrev pub invariant-loop-low : goal.invariant-loop-low
invariant-loop-low l = record {
  order : l.low ≤ l.high;
  within : l.high ≤ length l.gone.items;
  front : 0 < l.low → slice_index l.gone.items (l.low - 1) < l.at + l.low;
  behind : l.high < length l.gone.items → l.at + l.high < slice_index l.gone.items l.high;
}
