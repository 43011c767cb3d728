use Rattle.std.proofs.Common.{◌-◌, ◌≤◌, true, length}
use Rattle.world_store.specs.Copies.{has_id_behind, IsInFront, IsAtBack}
use Rattle.world_store.proofs.copies.object_place.Given as goal

abbrev pub invariant-loop-low : goal.invariant-loop-low
invariant-loop-low l = record {
  ordered : l.low ≤ l.high;
  within : l.high ≤ length l.objects.objects;
  front : IsInFront (λ o. true) (has_id_behind l.id) l.objects.objects l.low;
  back : IsAtBack (λ o. true) (has_id_behind l.id) l.objects.objects l.high;
}

abbrev pub decreases-loop-low : goal.decreases-loop-low
decreases-loop-low l = l.high - l.low
