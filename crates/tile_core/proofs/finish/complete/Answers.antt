use Rattle.std.proofs.Common.{arith}
use Rattle.session_table.specs.Sessions.{State}
use Rattle.session_table.specs.Fans.{IsPlaced}
use Rattle.session_table.specs.FanLaws.{bare_all}
use Rattle.tile_core.proofs.Calls.{as_many}
use Rattle.tile_core.proofs.Completing.{can_placed}
use Rattle.tile_core.proofs.finish.complete.Goals as goal

pub finish_planned-length-requires-clause-at : goal.finish_planned-length-requires-clause-at
finish_planned-length-requires-clause-at c = let long = as_many c.args.sessions.now.items c.place_told.new.sessions.items c.place_told.ensures in omega (arith, long, c.requires.at)

pub finish_planned-length-requires-clause-can : goal.finish_planned-length-requires-clause-can
finish_planned-length-requires-clause-can c = can_placed c.args.store.now c.args.sessions.now.items c.place_told.new.sessions.items c.args.at c.args.ready.planned c.requires.at c.place_told.ensures c.requires.can

pub finish_planned-length-requires-clause-bare : goal.finish_planned-length-requires-clause-bare
finish_planned-length-requires-clause-bare c = bare_all IsPlaced (λ (s t : State) (p : IsPlaced s t). p.bare) c.args.sessions.now.items c.place_told.new.sessions.items c.place_told.ensures
