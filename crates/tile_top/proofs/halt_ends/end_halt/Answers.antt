use Rattle.std.proofs.Common.{◌∙◌}
use Rattle.tile_top.proofs.Ends.{damage_ends, damage_wants, memory_ends}
use Rattle.tile_top.proofs.halt_ends.end_halt.Goals as goal

pub returns-in-Ok-clause-told : goal.returns-in-Ok-clause-told
returns-in-Ok-clause-told g c = damage_ends c.args.halt c.in-Damaged.side c.in-Damaged.place _ _ _ c.end-in-Ok.result c.in-Damaged.is (c.bytes.ensures ∙ c.in-Ok.ensures) c.end-in-Ok.ensures.told

pub returns-in-Err-clause-told : goal.returns-in-Err-clause-told
returns-in-Err-clause-told g c = damage_wants c.args.halt c.in-Damaged.side c.in-Damaged.place _ _ c.end-in-Err.result c.in-Damaged.is c.end-in-Err.ensures.told

pub returns-in-Memory-clause-told : goal.returns-in-Memory-clause-told
returns-in-Memory-clause-told g c = memory_ends c.args.halt _ _ c.end-in-Memory.result c.in-Memory.is c.end-in-Memory.ensures.told
