use Rattle.std.proofs.Common.{◌≡◌, ◌∙◌, true, sym, subst, ap, ℕ, List, arith}
use Rattle.std.proofs.lemmas.List.Edits.{length-remove}
use Rattle.slab.specs.Slab.{get}
use Rattle.ordered_lists.specs.Lists.{ascends}
use Rattle.ordered_lists.specs.Ascending.{ascends-remove}
use Rattle.collection.specs.Deadlines.{due_order, is_among}
use Rattle.collection.proofs.Numbers.{cut_by, stands, apart_of, among_remove}
use Rattle.collection.proofs.Dues.{due_trans, due_asym}
use Rattle.collection.proofs.due_lists.take_due.Goals as goal

pub place_of-at-requires : goal.place_of-at-requires
place_of-at-requires c =
    let f = get c.args.slots.now in
    cut_by (due_order f) (due_trans f) (due_asym f) c.args.key c.args.dues.now.items c.requires.order

pub remove-requires : goal.remove-requires
remove-requires c =
    let f = get c.args.slots.now in
    let there = c.requires.there ∙ sym c.has_due.ensures ∙ c.if-has_due.true in
    (stands (due_order f) (due_trans f) (due_asym f) c.args.key c.args.dues.now.items c.place_of-at.result 0 c.requires.order there c.place_of-at.ensures.front c.place_of-at.ensures.behind).0

pub returns-then-has_due-clause-order : goal.returns-then-has_due-clause-order
returns-then-has_due-clause-order c =
    let f = get c.args.slots.now in
    subst (λ (l : List ℕ). ascends (due_order f) l ≡ true) (sym c.remove.ensures.items) (ascends-remove (due_order f) c.args.dues.now.items c.place_of-at.result c.requires.order)

pub returns-then-has_due-clause-among : goal.returns-then-has_due-clause-among
returns-then-has_due-clause-among c =
    let f = get c.args.slots.now in
    let xs = c.args.dues.now.items in
    let at = c.place_of-at.result in
    let there = c.requires.there ∙ sym c.has_due.ensures ∙ c.if-has_due.true in
    let stood = stands (due_order f) (due_trans f) (due_asym f) c.args.key xs at 0 c.requires.order there c.place_of-at.ensures.front c.place_of-at.ensures.behind in
    let apart = apart_of (due_order f) (due_trans f) (due_asym f) xs c.requires.order in
    λ k. ap (is_among k) c.remove.ensures.items ∙ among_remove k c.args.key xs at 0 apart stood.0 stood.1

pub returns-then-has_due-clause-room : goal.returns-then-has_due-clause-room
returns-then-has_due-clause-room c =
    let f = get c.args.slots.now in
    let xs = c.args.dues.now.items in
    let at = c.place_of-at.result in
    let there = c.requires.there ∙ sym c.has_due.ensures ∙ c.if-has_due.true in
    let stood = stands (due_order f) (due_trans f) (due_asym f) c.args.key xs at 0 c.requires.order there c.place_of-at.ensures.front c.place_of-at.ensures.behind in
    let shorter = length-remove xs at stood.0 in
    rw c.remove.ensures.items (omega (arith, shorter, c.remove.ensures.spare))
