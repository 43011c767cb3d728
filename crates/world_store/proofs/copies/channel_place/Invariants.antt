use Rattle.std.proofs.Common.{◌-◌, ◌≤◌, true, length}
use Rattle.world_store.specs.Copies.{is_behind_name, IsInFront, IsAtBack}
use Rattle.world_store.proofs.copies.channel_place.Given as goal

abbrev pub invariant-loop-low : goal.invariant-loop-low
invariant-loop-low l = record {
  ordered : l.low ≤ l.high;
  within : l.high ≤ length l.hub.channels;
  front : IsInFront (λ c. true) (is_behind_name l.name) l.hub.channels l.low;
  back : IsAtBack (λ c. true) (is_behind_name l.name) l.hub.channels l.high;
}

abbrev pub decreases-loop-low : goal.decreases-loop-low
decreases-loop-low l = l.high - l.low
