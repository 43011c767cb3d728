use Rattle.std.proofs.Common.{Bool, [], ◌∷◌, sym, ap, ◌∙◌}
use Rattle.world_model.specs.Halls.{placed}
use Rattle.delivery_model.specs.Plans.{ending}
use Rattle.session_table.specs.Sessions.{session_of}
use Rattle.tile_core.specs.Ready.{ending_if}
use Rattle.tile_core.proofs.finish.finish_objects.Goals as goal

pub returns-then-plan-clause-caller : goal.returns-then-plan-clause-caller
returns-then-plan-clause-caller c =
    c.close.ensures.same ∙ ap ending (c.place_replies.ensures.same (c.args.plan.frame ∷ []) c.requires.replies) ∙ ap (λ (b : Bool). ending_if b (placed c.args.plan.frame (session_of c.args.caller.now))) (sym c.if-plan.true)

pub returns-else-plan-clause-caller : goal.returns-else-plan-clause-caller
returns-else-plan-clause-caller c =
    c.place_replies.ensures.same (c.args.plan.frame ∷ []) c.requires.replies ∙ ap (λ (b : Bool). ending_if b (placed c.args.plan.frame (session_of c.args.caller.now))) (sym c.if-plan.false)
