use Rattle.std.proofs.Common.{◌≡◌, false, not, sym, subst}
use Rattle.std.specs.Prelude.{◌&&◌}
use Rattle.std.proofs.lemmas.Result.{IfOk-weaker}
use Rattle.world_model.specs.Effects.{Effect, effect, is_served_subscribed}
use Rattle.world_model.specs.Subscriptions.{has_subs}
use Rattle.world_model.specs.declared.commands.Command.{Command}
use Rattle.keyspace.specs.Entries.{objects_in}
use Rattle.object_plans.specs.Beside.{IsPlanBeside}
use Rattle.object_plans.specs.Moves.{world_with}
use Rattle.channel_plans.specs.Planned.{IsPlanned}
use Rattle.channel_plans.specs.declared.planned.Planned.TheVariants.{Objects}
use Rattle.command_plans.specs.Asking.{IsAsked}
use Rattle.command_plans.proofs.SessionEffects.{channel_alike, object_alike, search_alike}
use Rattle.command_plans.proofs.requests.plan_open.Goals as goal

pub returns-in_ok-plan_object-in-Object : goal.returns-in_ok-plan_object-in-Object
returns-in_ok-plan_object-in-Object c =
    let os = objects_in c.args.context.objects.now in
    let cs = c.args.context.hub.now.channels in
    let w = world_with cs os in
    let held = c.args.context.subs.now in
    let p = c.in_ok-plan_object-in-Object.field-0 in
    let may = subst (λ (k : Command). (has_subs held && not (is_served_subscribed k)) ≡ false) c.in-Object.is c.requires.may_ask in
    subst (λ (k : Command). IsPlanned w c.args.context.total held (effect w c.args.context.now held k) (Objects p)) (sym c.in-Object.is)
    (subst (λ (e : Effect). IsPlanBeside cs os e p) (sym (object_alike w c.args.context.now held c.in-Object.command may))
    (c.in_ok-plan_object-in-Object.ensures cs c.requires.context.channels))

pub returns-in_ok-plan_search-in-Search : goal.returns-in_ok-plan_search-in-Search
returns-in_ok-plan_search-in-Search c =
    let os = objects_in c.args.context.objects.now in
    let cs = c.args.context.hub.now.channels in
    let w = world_with cs os in
    let held = c.args.context.subs.now in
    let p = c.in_ok-plan_search-in-Search.field-0 in
    let may = subst (λ (k : Command). (has_subs held && not (is_served_subscribed k)) ≡ false) c.in-Search.is c.requires.may_ask in
    subst (λ (k : Command). IsPlanned w c.args.context.total held (effect w c.args.context.now held k) (Objects p)) (sym c.in-Search.is)
    (subst (λ (e : Effect). IsPlanBeside cs os e p) (sym (search_alike w c.args.context.now held c.in-Search.command may))
    (c.in_ok-plan_search-in-Search.ensures cs c.args.context.now c.requires.context.channels))

pub returns-in-Channel : goal.returns-in-Channel
returns-in-Channel c =
    let w = world_with c.args.context.hub.now.channels (objects_in c.args.context.objects.now) in
    let held = c.args.context.subs.now in
    let may = subst (λ (k : Command). (has_subs held && not (is_served_subscribed k)) ≡ false) c.in-Channel.is c.requires.may_ask in
    IfOk-weaker c.plan_channel.result _ _ (λ p s.
    subst (λ (k : Command). IsPlanned w c.args.context.total held (effect w c.args.context.now held k) p) (sym c.in-Channel.is)
    (subst (λ (e : Effect). IsPlanned w c.args.context.total held e p) (sym (channel_alike w c.args.context.now held c.in-Channel.command may))
    (s held))) c.plan_channel.ensures

pub plan_object-requires-clause-kept : goal.plan_object-requires-clause-kept
plan_object-requires-clause-kept c = c.requires.context.kept

pub plan_object-requires-clause-light : goal.plan_object-requires-clause-light
plan_object-requires-clause-light c = c.requires.context.light

pub plan_object-requires-clause-moment : goal.plan_object-requires-clause-moment
plan_object-requires-clause-moment c = c.requires.context.moment

pub plan_object-requires-clause-asked : goal.plan_object-requires-clause-asked
plan_object-requires-clause-asked c = subst IsAsked c.in-Object.is c.requires.asked

pub plan_search-requires-clause-kept : goal.plan_search-requires-clause-kept
plan_search-requires-clause-kept c = c.requires.context.kept

pub plan_search-requires-clause-light : goal.plan_search-requires-clause-light
plan_search-requires-clause-light c = c.requires.context.light

pub plan_search-requires-clause-asked : goal.plan_search-requires-clause-asked
plan_search-requires-clause-asked c = subst IsAsked c.in-Search.is c.requires.asked

pub plan_channel-requires-clause-kept : goal.plan_channel-requires-clause-kept
plan_channel-requires-clause-kept c = c.requires.context.kept

pub plan_channel-requires-clause-channels : goal.plan_channel-requires-clause-channels
plan_channel-requires-clause-channels c = c.requires.context.channels

pub plan_channel-requires-clause-light : goal.plan_channel-requires-clause-light
plan_channel-requires-clause-light c = c.requires.context.light

pub plan_channel-requires-clause-moment : goal.plan_channel-requires-clause-moment
plan_channel-requires-clause-moment c = c.requires.context.moment

pub plan_channel-requires-clause-asked : goal.plan_channel-requires-clause-asked
plan_channel-requires-clause-asked c = subst IsAsked c.in-Channel.is c.requires.asked

pub plan_session-requires-clause-asked : goal.plan_session-requires-clause-asked
plan_session-requires-clause-asked c = subst IsAsked c.in-Session.is c.requires.asked

pub returns-in-Session : goal.returns-in-Session
returns-in-Session c =
    let w = world_with c.args.context.hub.now.channels (objects_in c.args.context.objects.now) in
    let held = c.args.context.subs.now in
    IfOk-weaker c.plan_session.result _ _ (λ p s.
    subst (λ (k : Command). IsPlanned w c.args.context.total held (effect w c.args.context.now held k) p) (sym c.in-Session.is) s) c.plan_session.ensures
