use Rattle.std.proofs.Common.{ℕ, List, subst, arith}
use Rattle.std.proofs.lemmas.Result.{IfOk-weaker}
use Rattle.world_data.specs.declared.channels.Channel.{Channel}
use Rattle.world_model.specs.Effects.{Effect}
use Rattle.keyspace.specs.Entries.{objects_in}
use Rattle.object_plans.specs.ChannelWeights.{still_beside}
use Rattle.object_plans.specs.Moves.{world_with}
use Rattle.object_plans.specs.Plans.{IsPlan}
use Rattle.search_plans.proofs.Still.{search_alike, search_still}
use Rattle.search_plans.proofs.commands.plan_search.Goals as goal

pub returns : goal.returns
returns c =
    let os = objects_in c.args.context.objects.now in
    IfOk-weaker c.plan_alone.result _ _ (λ p s. λ (cs : List Channel) (now : ℕ) weighed.
    still_beside cs os c.args.context.total c.requires.kept (omega (arith, c.requires.light, weighed)) _ p (search_still (world_with cs os) now c.args.command)
    (subst (λ (e : Effect). IsPlan os e p) (search_alike cs os now c.args.command) (s now))) c.plan_alone.ensures
