use Rattle.std.proofs.Common.{◌∙◌}
use Rattle.tile_top.proofs.Ends.{read_ends, script_ends}
use Rattle.tile_top.proofs.halt_ends.end_replay.Goals as goal

pub returns-in-Ok-clause-told : goal.returns-in-Ok-clause-told
returns-in-Ok-clause-told g c = script_ends c.args.ended c.in-Script.number _ _ _ c.end.result c.in-Script.is (c.bytes.ensures ∙ c.in-Ok.ensures) c.end.ensures.told

pub returns-in-ReadFault-clause-told : goal.returns-in-ReadFault-clause-told
returns-in-ReadFault-clause-told g c = read_ends c.args.ended _ _ c.end-in-ReadFault.result c.in-ReadFault.is c.end-in-ReadFault.ensures.told
