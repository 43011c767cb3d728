use Rattle.std.proofs.Common.{◌≢◌, refl, subst, rules, List}
use Rattle.byte_text.specs.declared.replies.Piece.{Piece}
use Rattle.world_data.specs.declared.queries.Shown.TheVariants as shown
use Rattle.world_model.specs.Effects.{says, within_reply}
use Rattle.search_plans.specs.Pages.{listing, objects_of_ids}
use Rattle.object_plans.specs.Plans.{Says}
use Rattle.search_plans.proofs.Pages.{page_listed}
use Rattle.search_plans.proofs.scans.say_page.Goals as goal

pub returns : goal.returns
returns c = λ found firsts paged.
    let q = c.args.query.now in
    let objects = c.args.objects.now.objects in
    let page = c.args.page.now in
    let other : q.shown ≢ shown.Count = search rules in
    let r = c.in_ok-frame.ensures (listing q page.cursor (objects_of_ids objects page.ids)) c.page_frame.ensures.ok c.page_frame.ensures.too_long in
    subst (λ (l : List Piece). Says (within_reply (says l)) c.args.total c.reply.result) (page_listed q objects found page firsts paged other)
    (rw c.reply.ensures (record { is = refl; replies = r }))
