use Rattle.std.proofs.Common.{ℕ, subst, ap, sym, ◌∙◌, List}
use Rattle.std.specs.Prelude.{Option}
use Rattle.std.proofs.lemmas.Result.{IfOk-weaker}
use Rattle.world_model.specs.Effects.{Effect, set_area, within_reply}
use Rattle.world_model.specs.Subscriptions.{Sub}
use Rattle.log_record.specs.Words.{until}
use Rattle.channel_plans.specs.Contexts.{kept_world}
use Rattle.channel_plans.specs.Planned.{IsPlanned}
use Rattle.channel_plans.proofs.ChannelEffects.{set_until}
use Rattle.channel_plans.proofs.setchans.plan_setchan.Goals as goal

pub returns : goal.returns
returns c =
    let w = kept_world c.args.context in
    let dated = ap (λ (d : Option ℕ). within_reply (set_area w (until d c.args.channel) c.args.area)) c.deadline_after-channel.ensures in
    let is = dated ∙ sym (set_until w c.args.context.now c.args.channel c.args.area c.args.seconds) in
    IfOk-weaker c.plan_area.result _ _ (λ p s. λ (held : List Sub). subst (λ (e : Effect). IsPlanned w c.args.context.total held e p) is (s held)) c.plan_area.ensures
