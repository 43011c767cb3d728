use Rattle.std.proofs.Common.{◌≡◌, List, ◌++◌, ◌∷◌, [], ◌+◌, ◌∙◌, ap, map, take}
use Rattle.std.proofs.lemmas.List.{map-append}
use Rattle.byte_text.specs.declared.replies.Piece.{Piece}
use Rattle.std.proofs.lemmas.Result.{IfOk-weaker, IfErr-weaker}
use Rattle.world_model.specs.Replies.{item_reply}
use Rattle.search_plans.specs.Pages.{objects_of_ids}
use Rattle.object_plans.specs.ListingLaws.{items_more, items_long, fault_of}
use Rattle.search_plans.proofs.Pages.{id_more, id_lost}
use Rattle.search_plans.proofs.scans.push_found.Goals as goal

abbrev before : (c : goal.After-push_object) → List (List Piece)
before c = map (item_reply c.args.query.now) (objects_of_ids c.args.objects.now.objects (take c.args.i c.args.page.now.ids))

step : (c : goal.After-push_object) → map (item_reply c.args.query.now) (objects_of_ids c.args.objects.now.objects (take (c.args.i + 1) c.args.page.now.ids)) ≡ before c ++ item_reply c.args.query.now c.in-Some.object.now ∷ []
step c =
    let objects = c.args.objects.now.objects in
    let more = id_more objects c.args.page.now.ids c.args.i c.at.result.now c.in-Some.object.now c.at.ensures c.in-Some.ensures.some in
    ap (map (item_reply c.args.query.now)) more ∙ map-append (item_reply c.args.query.now) (objects_of_ids objects (take c.args.i c.args.page.now.ids)) (c.in-Some.object.now ∷ [])

pub returns-in-Some-clause-ok : goal.returns-in-Some-clause-ok
returns-in-Some-clause-ok c = rw (step c) (IfOk-weaker c.push_object.result _ _ (λ u is. items_more (before c) (item_reply c.args.query.now c.in-Some.object.now) c.args.items.now c.push_object.new.self c.requires.items is) c.push_object.ensures.ok)

pub returns-in-Some-clause-too_long : goal.returns-in-Some-clause-too_long
returns-in-Some-clause-too_long c = rw (step c) (IfErr-weaker c.push_object.result _ _ (λ f is. fault_of _ f (λ e. items_long (before c) (item_reply c.args.query.now c.in-Some.object.now) c.args.items.now c.requires.items (is e))) c.push_object.ensures.too_long)

pub returns-in-None-clause-ok : goal.returns-in-None-clause-ok
returns-in-None-clause-ok c = rw (id_lost c.args.objects.now.objects c.args.page.now.ids c.args.i c.at.result.now c.at.ensures c.in-None.ensures.none) c.requires.items
