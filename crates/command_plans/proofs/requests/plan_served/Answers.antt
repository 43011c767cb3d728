use Rattle.std.proofs.Common.{◌∙◌, sym, arith}
use Rattle.world_model.specs.Refusals.{refusal_reply}
use Rattle.world_model.specs.declared.faults.Refusal.TheVariants as refusal
use Rattle.keyspace.specs.Entries.{objects_in}
use Rattle.object_plans.specs.Moves.{world_with}
use Rattle.command_plans.proofs.SessionEffects.{kept_out}
use Rattle.object_plans.specs.ChannelWeights.{says_beside}
use Rattle.command_plans.proofs.requests.plan_served.Goals as goal

pub returns-then-is_refused : goal.returns-then-is_refused
returns-then-is_refused c =
    let os = objects_in c.args.context.objects.now in
    let cs = c.args.context.hub.now.channels in
    says_beside cs os c.args.context.total c.requires.context.kept (omega (arith, c.requires.context.light, c.requires.context.channels)) _ (refusal_reply refusal.Subscribed) c.in_ok-refusal.refusal
    (kept_out (world_with cs os) c.args.context.now c.args.context.subs.now c.args.command (sym c.is_refused.ensures ∙ c.if-is_refused.true)) c.in_ok-refusal.ensures

pub plan_open-requires-clause-may_ask : goal.plan_open-requires-clause-may_ask
plan_open-requires-clause-may_ask c = sym c.is_refused.ensures ∙ c.if-is_refused.false
