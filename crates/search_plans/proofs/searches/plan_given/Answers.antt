use Rattle.std.proofs.Common.{ℕ, refl}
use Rattle.keyspace.specs.Entries.{objects_in}
use Rattle.object_plans.specs.Moves.{world_in}
use Rattle.object_plans.specs.Answering.{answers_ever}
use Rattle.search_plans.proofs.Pages.{searched}
use Rattle.search_plans.proofs.searches.plan_given.Goals as goal

pub returns : goal.returns
returns c =
    answers_ever (objects_in c.args.context.objects.now) c.args.context.total c.requires.kept _ _ c.plan_over.result refl c.plan_over.ensures
    _ (λ (now : ℕ). searched (world_in c.args.context.objects.now) now c.args.key.now c.args.query c.args.area)
