use Rattle.std.proofs.Common.{◌≡◌, ◌+◌, ◌≤◌, ℕ, true, sym, ap, subst, ◌∙◌, length, take, arith}
use Rattle.std.specs.Prelude.{filter, slice_get, Some}
use Rattle.std.proofs.lemmas.List.{length-take}
use Rattle.ordered_lists.specs.Reading.{filter-most}
use Rattle.fence_model.specs.Queries.{in_order, matches, meets_query, page_ids}
use Rattle.search_query.specs.Pages.{is_past}
use Rattle.search_query.proofs.InOrder.{all_found, by_direction, filter_in_order, noted}
use Rattle.search_query.specs.PageLaws.{ids_first, enough_first, read_first, count_all}
use Rattle.search_query.proofs.pages.list_ids.Goals as goal

pub note-requires-clause-room : goal.note-requires-clause-room
note-requires-clause-room c =
    let seen = take c.loop-i.i (in_order c.args.query.now.rule c.args.collection.now.objects) in
    let few : length (filter (meets_query c.args.query.now) seen) ≤ length seen = filter-most (meets_query c.args.query.now) seen in
    let read : length seen ≤ c.loop-i.i = rw (length-take c.loop-i.i (in_order c.args.query.now.rule c.args.collection.now.objects)) (omega arith) in
    omega (arith, few, read)

pub loop-i-preserved : goal.loop-i-preserved
loop-i-preserved c =
    let ordered = in_order c.args.query.now.rule c.args.collection.now.objects in
    let before = filter (meets_query c.args.query.now) (take c.loop-i.i ordered) in
    let is : slice_get ordered c.loop-i.i ≡ Some c.in_turn-object.result.now = rw (← by_direction c.args.query.now.rule c.args.collection.now.objects, ← c.is_down.ensures) c.in_turn-object.ensures in
    let more = noted (meets_query c.args.query.now) ordered c.loop-i.i c.in_turn-object.result.now is in
    record {
      count = rw more (c.in_ok-found.ensures.count before c.loop-i.invariant.count);
      ids = rw more (c.in_ok-found.ensures.ids before c.loop-i.invariant.count c.loop-i.invariant.ids);
    }

pub returns-clause-count : goal.returns-clause-count
returns-clause-count c =
    let q = c.args.query.now in
    let objects = c.args.collection.now.objects in
    let all = all_found (meets_query q) q.rule objects c.loop-i.i (omega arith) in
    count_all q (matches q objects) c.loop-i.found (c.loop-i.invariant.count ∙ ap length all)

pub returns-clause-ids : goal.returns-clause-ids
returns-clause-ids c =
    let all = all_found (meets_query c.args.query.now) c.args.query.now.rule c.args.collection.now.objects c.loop-i.i (omega arith) in
    rw (← all) c.loop-i.invariant.ids

-- once one is found behind the page
pub returns-then-is_past-clause-count : goal.returns-then-is_past-clause-count
returns-then-is_past-clause-count c =
    let q = c.args.query.now in
    let objects = c.args.collection.now.objects in
    let ordered = in_order q.rule objects in
    let before = filter (meets_query q) (take c.loop-i.i ordered) in
    let is : slice_get ordered c.loop-i.i ≡ Some c.in_turn-object.result.now = rw (← by_direction q.rule objects, ← c.is_down.ensures) c.in_turn-object.ensures in
    let more = noted (meets_query q) ordered c.loop-i.i c.in_turn-object.result.now is in
    let count = c.in_ok-found.ensures.count before c.loop-i.invariant.count ∙ ap length (sym more) in
    enough_first q (matches q objects) _ _ c.in_ok-found.found (read_first q (matches q objects) ordered (c.loop-i.i + 1) (filter_in_order (meets_query q) q.rule objects)) count (sym c.is_past.ensures ∙ c.if-is_past.true)

pub returns-then-is_past-clause-ids : goal.returns-then-is_past-clause-ids
returns-then-is_past-clause-ids c =
    let q = c.args.query.now in
    let objects = c.args.collection.now.objects in
    let ordered = in_order q.rule objects in
    let before = filter (meets_query q) (take c.loop-i.i ordered) in
    let is : slice_get ordered c.loop-i.i ≡ Some c.in_turn-object.result.now = rw (← by_direction q.rule objects, ← c.is_down.ensures) c.in_turn-object.ensures in
    let more = noted (meets_query q) ordered c.loop-i.i c.in_turn-object.result.now is in
    let count = c.in_ok-found.ensures.count before c.loop-i.invariant.count ∙ ap length (sym more) in
    let past = subst (λ (n : ℕ). is_past q n ≡ true) count (sym c.is_past.ensures ∙ c.if-is_past.true) in
    c.in_ok-found.ensures.ids before c.loop-i.invariant.count c.loop-i.invariant.ids ∙ ap (page_ids q) (sym more) ∙ ids_first q (matches q objects) _ _ (read_first q (matches q objects) ordered (c.loop-i.i + 1) (filter_in_order (meets_query q) q.rule objects)) past
