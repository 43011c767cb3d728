use Rattle.fence_model.specs.Queries.{matches}
use Rattle.search_plans.proofs.Pages.{matches_first}
use Rattle.search_plans.proofs.scans.plan_page.Goals as goal

pub returns : goal.returns
returns c =
    let q = c.args.query.now in
    let objects = c.args.objects.now.objects in
    c.say_page.ensures (matches q objects) (matches_first q objects c.len-count.ensures.by_id) c.in_ok-page.ensures.page
