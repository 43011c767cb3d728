use Rattle.std.proofs.Common.{◌≡◌, ◌∙◌, true, sym, subst, ℕ, List, arith}
use Rattle.std.proofs.lemmas.List.Edits.{length-remove}
use Rattle.run_list.specs.Runs.{is_cut}
use Rattle.slab.specs.Slab.{get}
use Rattle.channel_hub.specs.DueOrder.{due_order, has_deadline}
use Rattle.channel_hub.proofs.DueSlots.{before_cut, placed_slot}
use Rattle.channel_hub.proofs.due_slots.take_due.Goals as goal

pub place_of-at-requires : goal.place_of-at-requires
place_of-at-requires c =
    let f = get c.args.slots.now in
    let listed = c.requires.listed in
    subst (λ (l : List ℕ). is_cut (λ s. due_order f s c.args.slot) l ≡ true) (sym listed.1) (before_cut f listed.0 c.args.slot)

pub remove-requires : goal.remove-requires
remove-requires c =
    let f = get c.args.slots.now in
    let expires : has_deadline (f c.args.slot) ≡ true = sym c.may_expire.ensures ∙ c.if-may_expire.true in
    let there = c.requires.there in
    (placed_slot f c.args.slot c.args.dues.now.items there.0 c.place_of-at.result there.1 expires c.place_of-at.ensures.front c.place_of-at.ensures.behind).0

pub returns-then-may_expire-clause-items : goal.returns-then-may_expire-clause-items
returns-then-may_expire-clause-items c = λ rest is.
    let f = get c.args.slots.now in
    let expires : has_deadline (f c.args.slot) ≡ true = sym c.may_expire.ensures ∙ c.if-may_expire.true in
    c.remove.ensures.items ∙ (placed_slot f c.args.slot c.args.dues.now.items rest c.place_of-at.result is expires c.place_of-at.ensures.front c.place_of-at.ensures.behind).1

pub returns-else-may_expire-clause-items : goal.returns-else-may_expire-clause-items
returns-else-may_expire-clause-items c = λ rest is.
    let expires = sym c.may_expire.ensures ∙ c.if-may_expire.false in
    rw expires at is

pub returns-then-may_expire-clause-room : goal.returns-then-may_expire-clause-room
returns-then-may_expire-clause-room c =
    let f = get c.args.slots.now in
    let expires : has_deadline (f c.args.slot) ≡ true = sym c.may_expire.ensures ∙ c.if-may_expire.true in
    let there = c.requires.there in
    let within = (placed_slot f c.args.slot c.args.dues.now.items there.0 c.place_of-at.result there.1 expires c.place_of-at.ensures.front c.place_of-at.ensures.behind).0 in
    let shorter = length-remove c.args.dues.now.items c.place_of-at.result within in
    rw c.remove.ensures.items (omega (arith, shorter, c.remove.ensures.spare))
