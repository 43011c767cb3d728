use Rattle.std.proofs.Common.{◌+◌, ◌≤◌, sym, subst, arith}
use Rattle.std.proofs.lemmas.Result.{IfOk-weaker}
use Rattle.world_model.specs.Effects.{effect}
use Rattle.world_model.specs.declared.commands.Command.TheVariants as family
use Rattle.world_model.specs.declared.session_commands.SessionCommand.{SessionCommand}
use Rattle.keyspace.specs.Entries.{objects_in}
use Rattle.object_plans.specs.Beside.{channels_weight}
use Rattle.object_plans.specs.Kept.{most_kept}
use Rattle.object_plans.specs.Moves.{world_with}
use Rattle.channel_plans.specs.Planned.{IsPlanned}
use Rattle.command_plans.specs.Asking.{IsAskedOfSession}
use Rattle.command_plans.proofs.Asked.{names_sound}
use Rattle.command_plans.proofs.sessions.plan_session.Goals as goal

pub returns-in-Subscribe : goal.returns-in-Subscribe
returns-in-Subscribe c =
    let cs = c.args.context.hub.now.channels in
    let w = world_with cs (objects_in c.args.context.objects.now) in
    let held = c.args.context.subs.now in
    let light : c.args.context.total + channels_weight cs ≤ most_kept = omega (arith, c.requires.context.light, c.requires.context.channels) in
    IfOk-weaker c.plan_subscribe.result _ _ (λ p s.
    subst (λ (k : SessionCommand). IsPlanned w c.args.context.total held (effect w c.args.context.now held (family.Session k)) p) (sym c.in-Subscribe.is)
    (s cs c.args.context.now light)) c.plan_subscribe.ensures

pub returns-in-Psubscribe : goal.returns-in-Psubscribe
returns-in-Psubscribe c =
    let cs = c.args.context.hub.now.channels in
    let w = world_with cs (objects_in c.args.context.objects.now) in
    let held = c.args.context.subs.now in
    let light : c.args.context.total + channels_weight cs ≤ most_kept = omega (arith, c.requires.context.light, c.requires.context.channels) in
    IfOk-weaker c.plan_subscribe-in-Psubscribe.result _ _ (λ p s.
    subst (λ (k : SessionCommand). IsPlanned w c.args.context.total held (effect w c.args.context.now held (family.Session k)) p) (sym c.in-Psubscribe.is)
    (s cs c.args.context.now light)) c.plan_subscribe-in-Psubscribe.ensures

pub plan_subscribe-requires-clause-kept : goal.plan_subscribe-requires-clause-kept
plan_subscribe-requires-clause-kept c = c.requires.context.kept

pub plan_subscribe-requires-clause-sound : goal.plan_subscribe-requires-clause-sound
plan_subscribe-requires-clause-sound c = c.requires.context.sound

pub plan_subscribe-requires-clause-names : goal.plan_subscribe-requires-clause-names
plan_subscribe-requires-clause-names c = subst IsAskedOfSession c.in-Subscribe.is c.requires.asked

pub plan_subscribe-requires-clause-patterns : goal.plan_subscribe-requires-clause-patterns
plan_subscribe-requires-clause-patterns c = names_sound c.in-Subscribe.names

pub plan_subscribe-requires-in-Psubscribe-clause-kept : goal.plan_subscribe-requires-in-Psubscribe-clause-kept
plan_subscribe-requires-in-Psubscribe-clause-kept c = c.requires.context.kept

pub plan_subscribe-requires-in-Psubscribe-clause-sound : goal.plan_subscribe-requires-in-Psubscribe-clause-sound
plan_subscribe-requires-in-Psubscribe-clause-sound c = c.requires.context.sound

pub plan_subscribe-requires-in-Psubscribe-clause-names : goal.plan_subscribe-requires-in-Psubscribe-clause-names
plan_subscribe-requires-in-Psubscribe-clause-names c = (subst IsAskedOfSession c.in-Psubscribe.is c.requires.asked).0

pub plan_subscribe-requires-in-Psubscribe-clause-patterns : goal.plan_subscribe-requires-in-Psubscribe-clause-patterns
plan_subscribe-requires-in-Psubscribe-clause-patterns c = (subst IsAskedOfSession c.in-Psubscribe.is c.requires.asked).1
