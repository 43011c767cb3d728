use Rattle.std.proofs.Common.{◌∙◌, ap, sym}
use Rattle.repl_node.specs.FollowedSoFar.{shown_now}
use Rattle.repl_node.specs.declared.phases.Phase.{Phase}
use Rattle.tile_top.proofs.Telling.{telling_kept, told_quiet}
use Rattle.tile_top.proofs.follows.follow_turn.Goals as goal

pub returns-in-Ended-clause-keeps : goal.returns-in-Ended-clause-keeps
returns-in-Ended-clause-keeps g c = λ first came told0 held0 t.
    told_quiet c.args.terms first came told0 held0 c.stop_of.result c.follow_link.new.follower c.args.told.now (g.K.Sink.held c.args.sink.now)
    (ap (λ (p : Phase). shown_now p c.follow_link.new.follower.node) (sym c.phase.ensures ∙ c.in-Ended.is))
    (telling_kept c.args.terms first came told0 held0 c.args.follower.now c.follow_link.new.follower c.args.told.now
    (g.K.Sink.held c.args.sink.now) c.follow_link.ensures.kept t)
