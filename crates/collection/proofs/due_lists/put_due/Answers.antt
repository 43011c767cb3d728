use Rattle.std.proofs.Common.{◌≡◌, ◌∙◌, true, sym, subst, ap, ℕ, Bool, List, arith}
use Rattle.std.specs.Prelude.{nat_eq, ◌||◌, ◌&&◌}
use Rattle.slab.specs.Slab.{get}
use Rattle.ordered_lists.specs.Lists.{ascends}
use Rattle.ordered_lists.specs.Ascending.{put_in-insert, ascends-put_in}
use Rattle.collection.specs.Deadlines.{due_order, is_among, is_expiring}
use Rattle.collection.proofs.Numbers.{cut_by, next_behind, among_insert}
use Rattle.collection.proofs.Dues.{due_trans, due_tie, due_asym}
use Rattle.collection.proofs.due_lists.put_due.Goals as goal

pub place_of-at-requires : goal.place_of-at-requires
place_of-at-requires c =
    let f = get c.args.slots.now in
    cut_by (due_order f) (due_trans f) (due_asym f) c.args.key c.args.dues.now.items c.requires.order

pub returns-then-has_due-clause-order : goal.returns-then-has_due-clause-order
returns-then-has_due-clause-order c =
    let f = get c.args.slots.now in
    let xs = c.args.dues.now.items in
    let at = c.place_of-at.result in
    let next = next_behind (due_order f) (due_trans f) (due_asym f) c.args.key xs at c.place_of-at.ensures.behind c.requires.apart in
    let made = c.insert.ensures.items ∙ sym (put_in-insert (due_order f) (due_asym f) c.args.key xs at c.place_of-at.ensures.front next) in
    subst (λ (l : List ℕ). ascends (due_order f) l ≡ true) (sym made) (ascends-put_in (due_order f) (due_trans f) (due_tie f) c.args.key xs c.requires.order)

pub returns-then-has_due-clause-among : goal.returns-then-has_due-clause-among
returns-then-has_due-clause-among c =
    let f = get c.args.slots.now in
    let xs = c.args.dues.now.items in
    let at = c.place_of-at.result in
    let expires : is_expiring (f c.args.key) ≡ true = sym c.has_due.ensures ∙ c.if-has_due.true in
    λ k. ap (is_among k) c.insert.ensures.items ∙ among_insert k c.args.key xs at ∙ with_true (is_among k xs) (nat_eq k c.args.key) (is_expiring (f c.args.key)) expires
  where
    with_true : (a b e : Bool) → e ≡ true → (a || b) ≡ (a || (b && e))
    with_true a b e is = grind arith
