use Rattle.std.proofs.Common.{◌<◌, ◌≤◌, ◌-◌, length, slice_index_or}
use Rattle.rtree.specs.declared.nodes.Slot.{Slot}
use Rattle.rtree.specs.Pairs.{IsAtMost, IsBefore}
use Rattle.rtree.proofs.nodes.place_for.Given as goal

-- the slot before `low` begins at most with the entry, and the slot at `high` behind it
abbrev pub invariant-loop-low : goal.invariant-loop-low
invariant-loop-low l = record {
  between : l.low ≤ l.high;
  within : l.high ≤ length l.slots;
  before : (d : Slot) → 0 < l.low → IsAtMost (slice_index_or l.slots (l.low - 1) d).first l.entry;
  behind : (d : Slot) → l.high < length l.slots → IsBefore l.entry (slice_index_or l.slots l.high d).first;
}

abbrev pub decreases-loop-low : goal.decreases-loop-low
decreases-loop-low l = l.high - l.low
