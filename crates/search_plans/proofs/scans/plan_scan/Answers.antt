use Rattle.std.proofs.Common.{ℕ, ap, sym, ◌∙◌}
use Rattle.world_model.specs.Replies.{page_reply}
use Rattle.fence_model.specs.Queries.{matches}
use Rattle.keyspace.specs.Entries.{objects_in}
use Rattle.object_plans.specs.Moves.{world_in}
use Rattle.object_plans.specs.Answering.{answers_ever}
use Rattle.search_plans.proofs.Pages.{scanned}
use Rattle.search_plans.proofs.scans.plan_scan.Goals as goal

pub returns-in-Some : goal.returns-in-Some
returns-in-Some c =
    let q = c.args.query.now in
    answers_ever (objects_in c.args.objects.now) c.args.total c.requires.kept _ _ c.plan_page.result (ap (λ os. page_reply q (matches q os)) c.in-Some.ensures.some) c.plan_page.ensures
    _ (λ (now : ℕ). scanned (world_in c.args.objects.now) now c.args.key.now q)

pub returns-in-None : goal.returns-in-None
returns-in-None c =
    let q = c.args.query.now in
    answers_ever (objects_in c.args.objects.now) c.args.total c.requires.kept _ _ c.plan_page-in-None-2.result (ap (λ os. page_reply q (matches q os)) (c.new.ensures ∙ sym c.in-None.ensures.none)) c.plan_page-in-None-2.ensures
    _ (λ (now : ℕ). scanned (world_in c.args.objects.now) now c.args.key.now q)
