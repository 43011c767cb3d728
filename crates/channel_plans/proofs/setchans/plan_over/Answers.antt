use Rattle.std.proofs.Common.{◌≡◌, true, subst, ap, ◌∙◌, sym, refl, arith, List, [], ◌∷◌}
use Rattle.std.specs.Prelude.{codes}
use Rattle.std.proofs.lemmas.Result.{IfOk-weaker}
use Rattle.log_record.specs.Words.{IsRecorded}
use Rattle.world_data.specs.Sound.{is_sound_channel}
use Rattle.world_data.specs.Worlds.{is_at}
use Rattle.world_data.specs.declared.worlds.Change.TheVariants as change
use Rattle.world_data.specs.declared.channels.Channel.{Channel}
use Rattle.world_model.specs.Effects.{Effect, setchan_effect, within_reply}
use Rattle.world_model.specs.Subscriptions.{Sub}
use Rattle.keyspace.specs.Entries.{objects_in}
use Rattle.object_plans.specs.Moves.{IsAccepted, world_with}
use Rattle.channel_plans.specs.Planned.{IsPlanned}
use Rattle.channel_plans.proofs.ChannelEffects.{figure_sound, set_of, set_none}
use Rattle.object_plans.specs.ChannelWeights.{still_beside}
use Rattle.object_plans.specs.Standing.{found_holds}
use Rattle.channel_plans.specs.declared.planned.Planned.TheVariants.{Objects}
use Rattle.channel_plans.proofs.setchans.plan_over.Goals as goal

pub returns-in_default : goal.returns-in_default
returns-in_default c = λ (held : List Sub).
    let os = objects_in c.args.context.objects.now in
    let cs = c.args.context.hub.now.channels in
    let w = world_with cs os in
    subst (λ (e : Effect). IsPlanned w c.args.context.total held e (Objects c.in_ok-plan_missing.field-0)) (sym (set_none w c.args.channel c.args.key.now c.args.id.now c.in_default.ensures.none))
    (still_beside cs os c.args.context.total c.requires.kept (omega (arith, c.requires.light, c.requires.channels)) _ c.in_ok-plan_missing.field-0 refl c.in_ok-plan_missing.ensures)

pub plan_settled-requires-clause-sound : goal.plan_settled-requires-clause-sound
plan_settled-requires-clause-sound c =
    subst (λ (x : Channel). is_sound_channel x ≡ true) (sym c.in_ok-settled.ensures.settled) (figure_sound c.args.channel c.args.key.now c.args.id.now c.in-Some.object.now (codes "OBJECT" ∷ c.in-Some.object.now.text ∷ []) c.requires.sound)

pub plan_settled-requires-clause-recorded : goal.plan_settled-requires-clause-recorded
plan_settled-requires-clause-recorded c =
    let o = c.in-Some.object.now in
    let accepted = found_holds (is_at c.args.key.now c.args.id.now) o IsAccepted (objects_in c.args.context.objects.now) c.in-Some.ensures.some c.requires.kept.accepted in
    subst (λ (x : Channel). IsRecorded (change.SetChan x)) (sym c.in_ok-settled.ensures.settled)
    (c.requires.recorded o.text o.shape accepted c.in_ok-settled.ensures.short)

pub returns : goal.returns
returns c =
    let os = objects_in c.args.context.objects.now in
    let cs = c.args.context.hub.now.channels in
    let w = world_with cs os in
    let is = ap (λ (x : Channel). within_reply (setchan_effect w x)) c.in_ok-settled.ensures.settled ∙ sym (set_of w c.args.channel c.args.key.now c.args.id.now c.in-Some.object.now c.in-Some.ensures.some) in
    IfOk-weaker c.plan_settled.result _ _ (λ p s. λ (held : List Sub). subst (λ (e : Effect). IsPlanned w c.args.context.total held e p) is (s held)) c.plan_settled.ensures
