use Rattle.std.proofs.Common.{take}
use Rattle.tile_core.specs.RecordSinks.{ArePushed}
use Rattle.channel_plans.specs.Planned.{dropped_of}
use Rattle.tile_core.proofs.records.push_dropped.Given as goal

abbrev pub invariant-loop-i : goal.invariant-loop-i
invariant-loop-i g l = ArePushed (dropped_of (take l.i l.names)) l.fn.into l.into
