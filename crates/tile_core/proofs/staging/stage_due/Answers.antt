use Rattle.std.proofs.Common.{ℕ, ◌∙◌, subst}
use Rattle.std.proofs.lemmas.Result.{on_ok_weaker}
use Rattle.fence_model.specs.Writes.{announced}
use Rattle.world_data.specs.declared.worlds.Change.TheVariants as change
use Rattle.message_fanout.specs.Stagings.{IsBeforeDel, IsStagedIn, those_left}
use Rattle.tile_core.proofs.Orders.{deadline_is}
use Rattle.tile_core.proofs.staging.stage_due.Goals as goal

pub returns-clause-staged : goal.returns-clause-staged
returns-clause-staged g c =
    let o = c.args.object.now in
    on_ok_weaker c.stage_del.result
    (subst (λ (n : ℕ). IsStagedIn (IsBeforeDel (those_left n c.args.hub.now.channels) o) (announced (change.Del o.key o.id)) c.args.sessions.now.items c.stage_del.new.sessions.items) (c.unwrap_or-gone_before.ensures ∙ deadline_is o.deadline))
    c.stage_del.ensures.staged
