use Rattle.std.proofs.Common.{◌≤◌, ◌-◌, List, ◌∷◌, drop, length, map}
use Rattle.fence_model.specs.Writes.{going}
use Rattle.world_data.specs.Expiry.{in_turn}
use Rattle.world_data.specs.declared.objects.Object.{Object}
use Rattle.tile_core.specs.RecordSinks.{ArePushedUpTo}
use Rattle.tile_core.proofs.records.push_before.Given as goal

abbrev pub decreases-loop-into : goal.decreases-loop-into
decreases-loop-into g l = length l.out - l.next

-- those in front of the place are pushed
abbrev pub invariant-loop-into : goal.invariant-loop-into
invariant-loop-into g l = record {
  within : l.next ≤ length l.out;
  pushed : (more : List Object) → ArePushedUpTo (map going (in_turn (l.object ∷ more) (drop l.at l.out))) (map going (in_turn (l.object ∷ more) (drop l.next l.out))) l.fn.into l.into;
}
