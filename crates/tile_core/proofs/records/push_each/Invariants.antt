use Rattle.std.proofs.Common.{take}
use Rattle.tile_core.specs.RecordSinks.{ArePushed}
use Rattle.tile_core.specs.Staged.{dels_of}
use Rattle.tile_core.proofs.records.push_each.Given as goal

abbrev pub invariant-loop-i : goal.invariant-loop-i
invariant-loop-i g l = ArePushed (dels_of l.key (take l.i l.ids)) l.fn.into l.into
