use Rattle.std.proofs.Common.{◌≤◌, drop, length, map}
use Rattle.fence_model.specs.Writes.{going}
use Rattle.world_data.specs.Expiry.{in_turn}
use Rattle.tile_core.specs.RecordSinks.{ArePushedUpTo}
use Rattle.tile_core.proofs.records.push_in_turn.Given as goal

-- the first objects are pushed, with the channels that go before them
abbrev pub invariant-loop-i : goal.invariant-loop-i
invariant-loop-i g l = record {
  within : l.at ≤ length l.out;
  pushed : ArePushedUpTo (map going (in_turn l.held l.out)) (map going (in_turn (drop l.i l.held) (drop l.at l.out))) l.fn.into l.into;
}
