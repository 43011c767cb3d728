use Rattle.std.proofs.Common.{◌≡◌, true, subst, ap, ◌∙◌, sym, List, []}
use Rattle.std.specs.Prelude.{Option, Some}
use Rattle.std.proofs.lemmas.Result.{IfOk-weaker}
use Rattle.log_record.specs.Words.{IsRecorded}
use Rattle.world_data.specs.Sound.{is_sound_channel}
use Rattle.world_data.specs.declared.worlds.Change.TheVariants as change
use Rattle.world_data.specs.declared.channels.Channel.{Channel}
use Rattle.world_model.specs.Effects.{Effect, set_area, setchan_effect, within_reply}
use Rattle.world_model.specs.Sound.{is_sound_setting}
use Rattle.world_model.specs.Subscriptions.{Sub}
use Rattle.world_model.specs.declared.search_commands.AreaWords.{AreaWords}
use Rattle.keyspace.specs.Entries.{objects_in}
use Rattle.channel_plans.specs.Settings.{bare_settled, IsRecordable}
use Rattle.object_plans.specs.Moves.{world_with}
use Rattle.channel_plans.specs.Planned.{IsPlanned}
use Rattle.channel_plans.proofs.ChannelEffects.{given_sound, set_given}
use Rattle.channel_plans.proofs.setchans.plan_area.Goals as goal

pub returns-in-None : goal.returns-in-None
returns-in-None c =
    let w = world_with c.args.context.hub.now.channels (objects_in c.args.context.objects.now) in
    let is = ap (λ (a : Option AreaWords). within_reply (set_area w c.args.channel a)) (sym c.in-None.is) in
    IfOk-weaker c.plan_settled.result _ _ (λ p s. λ (held : List Sub). subst (λ (e : Effect). IsPlanned w c.args.context.total held e p) is (s held)) c.plan_settled.ensures

pub plan_settled-requires-in-Some-Given-clause-sound : goal.plan_settled-requires-in-Some-Given-clause-sound
plan_settled-requires-in-Some-Given-clause-sound c =
    let area_is = c.in-Some-Given.is ∙ ap Some c.in-Some-Given.field-0-is in
    let sound = given_sound c.args.channel c.in-Some-Given.area [] (subst (λ (a : Option AreaWords). is_sound_setting c.args.channel a ≡ true) area_is c.requires.sound) in
    subst (λ (x : Channel). is_sound_channel x ≡ true) (bare_settled c.args.channel c.in-Some-Given.area ∙ sym c.channel_over-settled.ensures) sound

pub returns-in-Some-Given : goal.returns-in-Some-Given
returns-in-Some-Given c =
    let w = world_with c.args.context.hub.now.channels (objects_in c.args.context.objects.now) in
    let area_is = c.in-Some-Given.is ∙ ap Some c.in-Some-Given.field-0-is in
    let is = ap (λ (x : Channel). within_reply (setchan_effect w x)) (c.channel_over-settled.ensures ∙ sym (bare_settled c.args.channel c.in-Some-Given.area)) ∙ sym (set_given w c.args.channel c.in-Some-Given.area)
    ∙ ap (λ (a : Option AreaWords). within_reply (set_area w c.args.channel a)) (sym area_is) in
    IfOk-weaker c.plan_settled-in-Some-Given.result _ _ (λ p s. λ (held : List Sub). subst (λ (e : Effect). IsPlanned w c.args.context.total held e p) is (s held)) c.plan_settled-in-Some-Given.ensures

pub plan_settled-requires-clause-recorded : goal.plan_settled-requires-clause-recorded
plan_settled-requires-clause-recorded c = subst (IsRecordable c.args.channel) c.in-None.is c.requires.recorded

pub plan_settled-requires-in-Some-Given-clause-recorded : goal.plan_settled-requires-in-Some-Given-clause-recorded
plan_settled-requires-in-Some-Given-clause-recorded c =
    let x = c.args.channel in
    let area = c.in-Some-Given.area in
    let recorded = subst (IsRecordable x) (c.in-Some-Given.is ∙ ap Some c.in-Some-Given.field-0-is) c.requires.recorded in
    subst (λ (y : Channel). IsRecorded (change.SetChan y)) (bare_settled x area ∙ sym c.channel_over-settled.ensures) recorded

pub returns-in-Some-Of : goal.returns-in-Some-Of
returns-in-Some-Of c =
    let w = world_with c.args.context.hub.now.channels (objects_in c.args.context.objects.now) in
    let is = ap (λ (a : Option AreaWords). within_reply (set_area w c.args.channel a)) (sym (c.in-Some-Of.is ∙ ap Some c.in-Some-Of.field-0-is)) in
    IfOk-weaker c.plan_over.result _ _ (λ p s. λ (held : List Sub). subst (λ (e : Effect). IsPlanned w c.args.context.total held e p) is (s held)) c.plan_over.ensures
