use Rattle.std.proofs.Common.{◌≡◌, ◌+◌, ◌≤◌, ℕ, true, sym, ap, subst, ◌∙◌, List, length, take, arith}
use Rattle.std.specs.Prelude.{filter, slice_get, Some}
use Rattle.std.proofs.lemmas.List.{length-take, take_all}
use Rattle.ordered_lists.specs.Reading.{filter-most}
use Rattle.planar_geom.specs.Points.{Bounds}
use Rattle.world_data.specs.declared.objects.Object.{Object}
use Rattle.planar_geom.specs.Relations.{area_box}
use Rattle.fence_model.specs.Queries.{matches, meets_query, page_ids}
use Rattle.collection.specs.Meeting.{meets_box}
use Rattle.search_query.specs.Pages.{is_past}
use Rattle.search_query.specs.PageLaws.{ids_first, enough_first, read_first, count_all}
use Rattle.search_query.proofs.InArea.{met_all}
use Rattle.search_query.proofs.InOrder.{noted}
use Rattle.search_query.proofs.pages.list_met.Goals as goal

pub note-requires-clause-room : goal.note-requires-clause-room
note-requires-clause-room g c =
    let p = meets_query c.args.query.now in
    let seen = take c.loop-i.i (filter (meets_box (area_box c.args.area.now)) c.args.collection.now.objects) in
    let few : length (filter p seen) ≤ length seen = filter-most p seen in
    let read : length seen ≤ c.loop-i.i = rw (length-take c.loop-i.i (filter (meets_box (area_box c.args.area.now)) c.args.collection.now.objects)) (omega arith) in
    let count = c.loop-i.invariant.count in
    omega (arith, few, read, count)

pub loop-i-preserved : goal.loop-i-preserved
loop-i-preserved g c =
    let p = meets_query c.args.query.now in
    let objects = c.args.collection.now.objects in
    let read = filter (meets_box (area_box c.args.area.now)) objects in
    let before = filter p (take c.loop-i.i read) in
    let is = c.in_ok-met.ensures.found ∙ ap (λ (b : Bounds). filter (meets_box b) objects) c.area_box.ensures in
    let here : slice_get read c.loop-i.i ≡ Some c.at.result.now = ap (λ (l : List Object). slice_get l c.loop-i.i) (sym is) ∙ c.at.ensures in
    let more = noted p read c.loop-i.i c.at.result.now here in
    record {
      count = rw more (c.in_ok-found.ensures.count before c.loop-i.invariant.count);
      ids = rw more (c.in_ok-found.ensures.ids before c.loop-i.invariant.count c.loop-i.invariant.ids);
    }

pub returns-clause-count : goal.returns-clause-count
returns-clause-count g c =
    let q = c.args.query.now in
    let p = meets_query q in
    let objects = c.args.collection.now.objects in
    let area = c.args.area.now in
    let read = filter (meets_box (area_box area)) objects in
    let is = c.in_ok-met.ensures.found ∙ ap (λ (b : Bounds). filter (meets_box b) objects) c.area_box.ensures in
    let long = ap length is in
    let all = ap (filter p) (take_all c.loop-i.i read (omega (arith, long))) ∙ met_all c.met_is_near.ensures q c.requires.area.0 area c.area_is_whole.ensures c.requires.area.1 objects c.met.ensures.whole in
    count_all q (matches q objects) c.loop-i.found (c.loop-i.invariant.count ∙ ap length all)

pub returns-clause-ids : goal.returns-clause-ids
returns-clause-ids g c =
    let q = c.args.query.now in
    let p = meets_query q in
    let objects = c.args.collection.now.objects in
    let area = c.args.area.now in
    let read = filter (meets_box (area_box area)) objects in
    let is = c.in_ok-met.ensures.found ∙ ap (λ (b : Bounds). filter (meets_box b) objects) c.area_box.ensures in
    let long = ap length is in
    let all = ap (filter p) (take_all c.loop-i.i read (omega (arith, long))) ∙ met_all c.met_is_near.ensures q c.requires.area.0 area c.area_is_whole.ensures c.requires.area.1 objects c.met.ensures.whole in
    rw (← all) c.loop-i.invariant.ids

-- once one is found behind the page
pub returns-then-is_past-clause-count : goal.returns-then-is_past-clause-count
returns-then-is_past-clause-count g c =
    let q = c.args.query.now in
    let p = meets_query q in
    let objects = c.args.collection.now.objects in
    let area = c.args.area.now in
    let read = filter (meets_box (area_box area)) objects in
    let is = c.in_ok-met.ensures.found ∙ ap (λ (b : Bounds). filter (meets_box b) objects) c.area_box.ensures in
    let here : slice_get read c.loop-i.i ≡ Some c.at.result.now = ap (λ (l : List Object). slice_get l c.loop-i.i) (sym is) ∙ c.at.ensures in
    let more = noted p read c.loop-i.i c.at.result.now here in
    let count = c.in_ok-found.ensures.count (filter p (take c.loop-i.i read)) c.loop-i.invariant.count ∙ ap length (sym more) in
    let all = met_all c.met_is_near.ensures q c.requires.area.0 area c.area_is_whole.ensures c.requires.area.1 objects c.met.ensures.whole in
    enough_first q (matches q objects) _ _ c.in_ok-found.found (read_first q (matches q objects) read (c.loop-i.i + 1) all) count (sym c.is_past.ensures ∙ c.if-is_past.true)

pub returns-then-is_past-clause-ids : goal.returns-then-is_past-clause-ids
returns-then-is_past-clause-ids g c =
    let q = c.args.query.now in
    let p = meets_query q in
    let objects = c.args.collection.now.objects in
    let area = c.args.area.now in
    let read = filter (meets_box (area_box area)) objects in
    let before = filter p (take c.loop-i.i read) in
    let is = c.in_ok-met.ensures.found ∙ ap (λ (b : Bounds). filter (meets_box b) objects) c.area_box.ensures in
    let here : slice_get read c.loop-i.i ≡ Some c.at.result.now = ap (λ (l : List Object). slice_get l c.loop-i.i) (sym is) ∙ c.at.ensures in
    let more = noted p read c.loop-i.i c.at.result.now here in
    let count = c.in_ok-found.ensures.count before c.loop-i.invariant.count ∙ ap length (sym more) in
    let past = subst (λ (n : ℕ). is_past q n ≡ true) count (sym c.is_past.ensures ∙ c.if-is_past.true) in
    let all = met_all c.met_is_near.ensures q c.requires.area.0 area c.area_is_whole.ensures c.requires.area.1 objects c.met.ensures.whole in
    c.in_ok-found.ensures.ids before c.loop-i.invariant.count c.loop-i.invariant.ids ∙ ap (page_ids q) (sym more) ∙ ids_first q (matches q objects) _ _ (read_first q (matches q objects) read (c.loop-i.i + 1) all) past
