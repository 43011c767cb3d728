use Rattle.std.proofs.Common.{inl, inr}
use Rattle.tile_top.proofs.Unfollowed.{follow_wanting}
use Rattle.tile_top.proofs.asides.follow_or_tell.Goals as goal

-- memory wanted for reading the words behind `follow`
pub returns-in-Err-clause-follow : goal.returns-in-Err-clause-follow
returns-in-Err-clause-follow g c = follow_wanting _ (g.L.ReadyDoor.shows c.args.door.now) (g.W.WaitForLinks.shows c.args.wait.now) (g.K.Sink.held c.args.sink.now) (g.K.Sink.held c.end.new.sink)
    (g.K.Sink.faults c.args.sink.now) (g.K.Sink.faults c.end.new.sink) c.end.result c.end.ensures.told c.end.ensures.cause

pub returns-in-Err-clause-usage : goal.returns-in-Err-clause-usage
returns-in-Err-clause-usage g c follow = inr (inr (inr c.in-Err.ensures.begun), c.end.ensures.told)

pub returns-in-Ok-None-clause-usage : goal.returns-in-Ok-None-clause-usage
returns-in-Ok-None-clause-usage g c follow = inl c.end-in-Ok-None.ensures.told
