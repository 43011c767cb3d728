use Rattle.fence_model.specs.Queries.{near_matches}
use Rattle.search_plans.proofs.Pages.{near_first}
use Rattle.search_plans.proofs.scans.plan_near_page.Goals as goal

pub returns : goal.returns
returns c =
    let q = c.args.query.now in
    let objects = c.args.objects.now.objects in
    c.say_page.ensures (near_matches q c.args.at c.args.reach objects) (near_first q c.args.at c.args.reach objects c.len-count.ensures.by_id) c.in_ok-near_page.ensures
