use Rattle.std.proofs.Common.{◌≡◌, ◌+◌, ◌≤◌, refl, sym, subst, arith}
use Rattle.std.specs.Prelude.{Err, Result}
use Rattle.world_model.specs.Effects.{says}
use Rattle.world_model.specs.Refusals.{fault_reply}
use Rattle.world_model.specs.Commands.{reads}
use Rattle.world_model.specs.declared.commands.Command.{Command}
use Rattle.world_model.specs.declared.faults.WordFault.{WordFault}
use Rattle.cmd_words.specs.Progress.{IfRefused}
use Rattle.cmd_words.specs.declared.faults.CommandFault.{CommandFault}
use Rattle.delivery_model.specs.Plans.{effect_of_read}
use Rattle.keyspace.specs.Entries.{objects_in}
use Rattle.object_plans.specs.Kept.{most_kept}
use Rattle.channel_plans.specs.declared.planned.Planned.TheVariants.{Objects}
use Rattle.object_plans.specs.Moves.{world_with}
use Rattle.object_plans.specs.Beside.{channels_weight}
use Rattle.channel_plans.specs.Planned.{IsPlanned}
use Rattle.command_plans.proofs.Asked.{served_asked}
use Rattle.command_plans.proofs.Faults.{answer_fits}
use Rattle.object_plans.specs.ChannelWeights.{still_beside}
use Rattle.command_plans.proofs.requests.plan_words.Goals as goal

pub plan_served-requires-clause-asked : goal.plan_served-requires-clause-asked
plan_served-requires-clause-asked c = served_asked c.settings_are_normal.ensures c.args.words.now c.words-count.ensures.fits c.in-Ok.command c.in-Ok.ensures.ok (c.served_commands.ensures c.args.words.now c.in-Ok.command c.in-Ok.ensures.ok)

pub plan_fault-requires-clause-short : goal.plan_fault-requires-clause-short
plan_fault-requires-clause-short c =
    let refused = subst (λ (why : CommandFault). IfRefused why (λ fault. reads c.args.words.now ≡ Err fault)) c.in-Err-Refused.field-0-is c.in-Err-Refused.ensures.err in
    answer_fits c.args.words.now c.in-Err-Refused.fault c.words-count.ensures.fits refused

pub returns-in_ok-plan_fault-in-Err-Refused : goal.returns-in_ok-plan_fault-in-Err-Refused
returns-in_ok-plan_fault-in-Err-Refused c =
    let os = objects_in c.args.context.objects.now in
    let cs = c.args.context.hub.now.channels in
    let w = world_with cs os in
    let fault = c.in-Err-Refused.fault in
    let p = c.in_ok-plan_fault-in-Err-Refused.field-0 in
    let refused : reads c.args.words.now ≡ Err fault = subst (λ (why : CommandFault). IfRefused why (λ fault. reads c.args.words.now ≡ Err fault)) c.in-Err-Refused.field-0-is c.in-Err-Refused.ensures.err in
    let light : c.args.context.total + channels_weight cs ≤ most_kept = omega (arith, c.requires.context.light, c.requires.context.channels) in
    subst (λ (r : Result Command WordFault). IsPlanned w c.args.context.total c.args.context.subs.now (effect_of_read w c.args.context.now c.args.context.subs.now r) (Objects p)) (sym refused)
    (still_beside cs os c.args.context.total c.requires.context.kept light (says (fault_reply fault)) p refl c.in_ok-plan_fault-in-Err-Refused.ensures)
