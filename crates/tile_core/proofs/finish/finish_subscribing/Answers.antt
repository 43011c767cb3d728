use Rattle.std.proofs.Common.{sym, ap, ◌∙◌, subst}
use Rattle.world_model.specs.Halls.{placed_each}
use Rattle.session_table.specs.Sessions.{AreReplies, State, session_of}
use Rattle.tile_core.proofs.finish.finish_subscribing.Goals as goal

pub returns-clause-caller : goal.returns-clause-caller
returns-clause-caller c =
    let frames = c.args.confirmed.frames.items in
    let are : AreReplies frames c.set_subscriptions.new.self = subst (AreReplies frames) (sym c.set_subscriptions.ensures) c.requires.replies in
    c.place_replies.ensures.same frames are ∙ ap (λ (s : State). placed_each (session_of s) frames) c.set_subscriptions.ensures
