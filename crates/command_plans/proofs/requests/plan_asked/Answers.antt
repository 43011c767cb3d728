use Rattle.std.proofs.Common.{◌+◌, ◌≤◌, refl, sym, subst, arith}
use Rattle.world_model.specs.Refusals.{broken_reply}
use Rattle.world_model.specs.declared.events.Asked.{Asked}
use Rattle.delivery_model.specs.Plans.{effect_of_asked, ends_with}
use Rattle.keyspace.specs.Entries.{objects_in}
use Rattle.object_plans.specs.Kept.{most_kept}
use Rattle.channel_plans.specs.declared.planned.Planned.TheVariants.{Objects}
use Rattle.object_plans.specs.Moves.{world_with}
use Rattle.object_plans.specs.Beside.{channels_weight}
use Rattle.channel_plans.specs.Planned.{IsPlanned}
use Rattle.object_plans.specs.ChannelWeights.{still_beside}
use Rattle.command_plans.proofs.requests.plan_asked.Goals as goal

pub returns-in_ok-plan_broken-in-Broken : goal.returns-in_ok-plan_broken-in-Broken
returns-in_ok-plan_broken-in-Broken c =
    let os = objects_in c.args.context.objects.now in
    let cs = c.args.context.hub.now.channels in
    let w = world_with cs os in
    let held = c.args.context.subs.now in
    let p = c.in_ok-plan_broken-in-Broken.field-0 in
    let light : c.args.context.total + channels_weight cs ≤ most_kept = omega (arith, c.requires.context.light, c.requires.context.channels) in
    subst (λ (a : Asked). IsPlanned w c.args.context.total held (effect_of_asked w c.args.context.now held a) (Objects p)) (sym c.in-Broken.is)
    (still_beside cs os c.args.context.total c.requires.context.kept light (ends_with (broken_reply c.in-Broken.fault)) p refl c.in_ok-plan_broken-in-Broken.ensures)
