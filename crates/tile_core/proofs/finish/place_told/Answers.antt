use Rattle.tile_core.proofs.Completing.{none_placed}
use Rattle.tile_core.proofs.finish.place_told.Goals as goal

pub returns-then-not-is_told : goal.returns-then-not-is_told
returns-then-not-is_told c = none_placed c.args.sessions.now.items (c.requires c.if-not-is_told.true)
