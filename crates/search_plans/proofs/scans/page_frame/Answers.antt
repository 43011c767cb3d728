use Rattle.std.proofs.Common.{◌≡◌, ◌++◌, ◌+◌, ◌∙◌, ap, map, take, drop}
use Rattle.std.proofs.lemmas.List.{map-append}
use Rattle.std.proofs.lemmas.Result.{err_from_is_err_and}
use Rattle.byte_text.specs.Replies.{number}
use Rattle.world_model.specs.Replies.{item_reply}
use Rattle.search_plans.specs.Pages.{objects_of_ids}
use Rattle.search_plans.proofs.Pages.{ids_first, long_page}
use Rattle.search_plans.proofs.scans.page_frame.Goals as goal

pub returns-in_err-push_found-clause-too_long : goal.returns-in_err-push_found-clause-too_long
returns-in_err-push_found-clause-too_long c =
    let item = item_reply c.args.query.now in
    let objects = c.args.objects.now.objects in
    let ids = c.args.page.now.ids in
    let n = c.loop-i.i + 1 in
    let first = objects_of_ids objects (take n ids) in
    let rest = objects_of_ids objects (drop n ids) in
    let p = err_from_is_err_and c.from_residual.result c.from_residual.ensures.1 in
    let both : map item (objects_of_ids objects ids) ≡ map item first ++ map item rest = ap (map item) (ids_first objects ids n) ∙ map-append item first rest in
    let long = long_page (number c.args.page.now.cursor) (map item first) (map item rest) _ c.in_err-push_found.ensures.too_long in
    rw (p.1, p.2, both) long
