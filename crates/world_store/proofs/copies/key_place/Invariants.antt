use Rattle.std.proofs.Common.{◌-◌, ◌≤◌, length}
use Rattle.keyspace.specs.Entries.{has_objects}
use Rattle.world_store.specs.Copies.{has_key_behind, IsInFront, IsAtBack}
use Rattle.world_store.proofs.copies.key_place.Given as goal

abbrev pub invariant-loop-low : goal.invariant-loop-low
invariant-loop-low l = record {
  ordered : l.low ≤ l.high;
  within : l.high ≤ length l.objects;
  front : IsInFront has_objects (has_key_behind l.key) l.objects l.low;
  back : IsAtBack has_objects (has_key_behind l.key) l.objects l.high;
}

abbrev pub decreases-loop-low : goal.decreases-loop-low
decreases-loop-low l = l.high - l.low
