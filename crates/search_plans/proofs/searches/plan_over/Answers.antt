use Rattle.std.proofs.Common.{List, sym, subst, ◌∙◌}
use Rattle.std.specs.Prelude.{IfOk}
use Rattle.fence_model.specs.Queries.{matches}
use Rattle.world_data.specs.declared.objects.Object.{Object}
use Rattle.world_data.specs.declared.queries.Query.{Query}
use Rattle.world_data.specs.Worlds.{objects_of}
use Rattle.world_model.specs.Effects.{says, within_reply}
use Rattle.world_model.specs.Replies.{page_reply}
use Rattle.object_plans.specs.Moves.{world_in}
use Rattle.object_plans.specs.Plans.{Says}
use Rattle.search_plans.proofs.searches.plan_over.Goals as goal

pub returns-in-Some : goal.returns-in-Some
returns-in-Some c =
    subst (λ (q : Query). IfOk c.plan_page.result (Says (within_reply (says (page_reply q (matches q (objects_of (world_in c.args.context.objects.now) c.args.key.now))))) c.args.context.total)) c.query_over-query.ensures
    (subst (λ (os : List Object). IfOk c.plan_page.result (Says (within_reply (says (page_reply c.query_over-query.result (matches c.query_over-query.result os)))) c.args.context.total)) c.in-Some.ensures.some c.plan_page.ensures)

pub returns : goal.returns
returns c =
    subst (λ (q : Query). IfOk c.plan_page-in-None-2.result (Says (within_reply (says (page_reply q (matches q (objects_of (world_in c.args.context.objects.now) c.args.key.now))))) c.args.context.total)) c.query_over-query.ensures
    (subst (λ (os : List Object). IfOk c.plan_page-in-None-2.result (Says (within_reply (says (page_reply c.query_over-query.result (matches c.query_over-query.result os)))) c.args.context.total)) (c.new.ensures ∙ sym c.in-None.ensures.none) c.plan_page-in-None-2.ensures)
