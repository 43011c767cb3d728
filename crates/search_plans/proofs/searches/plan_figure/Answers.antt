use Rattle.std.proofs.Common.{ℕ, ap, sym, subst}
use Rattle.std.proofs.lemmas.Result.{IfOk-weaker}
use Rattle.fence_model.specs.Queries.{matches}
use Rattle.world_data.specs.Worlds.{objects_of}
use Rattle.world_model.specs.Effects.{Effect, rule_over}
use Rattle.world_model.specs.Replies.{page_reply}
use Rattle.keyspace.specs.Entries.{objects_in}
use Rattle.object_plans.specs.Moves.{world_in}
use Rattle.object_plans.specs.Plans.{IsPlan}
use Rattle.object_plans.specs.Answering.{answers_ever}
use Rattle.search_plans.proofs.Pages.{searched_figure, searched_nothing}
use Rattle.search_plans.proofs.searches.plan_figure.Goals as goal

pub returns-in_default : goal.returns-in_default
returns-in_default c =
    let none = λ (now : ℕ). searched_nothing (world_in c.args.context.objects.now) now c.args.key.now c.args.query c.args.of_key.now c.args.id.now c.in_default.ensures.none in
    IfOk-weaker c.plan_missing.result _ _ (λ p s. λ (now : ℕ). subst (λ (e : Effect). IsPlan (objects_in c.args.context.objects.now) e p) (sym (none now)) s) c.plan_missing.ensures

pub returns : goal.returns
returns c =
    let q = c.args.query in
    let w = world_in c.args.context.objects.now in
    answers_ever (objects_in c.args.context.objects.now) c.args.context.total c.requires.kept _ _ c.plan_over.result (ap (λ a. page_reply q (matches (record q { rule = rule_over q.rule a }) (objects_of w c.args.key.now))) c.in_ok-area.ensures) c.plan_over.ensures
    _ (λ (now : ℕ). searched_figure w now c.args.key.now q c.args.of_key.now c.args.id.now c.in-Some.object.now c.in-Some.ensures.some)
