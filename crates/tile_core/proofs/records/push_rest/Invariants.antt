use Rattle.std.proofs.Common.{drop, map}
use Rattle.fence_model.specs.Writes.{going}
use Rattle.world_data.specs.Expiry.{deletions}
use Rattle.tile_core.specs.RecordSinks.{ArePushedUpTo}
use Rattle.tile_core.proofs.records.push_rest.Given as goal

abbrev pub invariant-loop-i : goal.invariant-loop-i
invariant-loop-i g l = ArePushedUpTo (map going (deletions (drop l.from l.out))) (map going (deletions (drop l.i l.out))) l.fn.into l.into
