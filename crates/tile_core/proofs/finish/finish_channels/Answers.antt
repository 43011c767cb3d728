use Rattle.std.proofs.Common.{[], ◌∷◌}
use Rattle.tile_core.proofs.finish.finish_channels.Goals as goal

pub returns-clause-caller : goal.returns-clause-caller
returns-clause-caller c = c.place_replies.ensures.same (c.args.plan.frame ∷ []) c.requires.replies
