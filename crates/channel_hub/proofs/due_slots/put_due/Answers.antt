use Rattle.std.proofs.Common.{◌≡◌, ◌∙◌, true, sym, subst, ℕ, List, refl, arith}
use Rattle.std.proofs.lemmas.List.Edits.{length-insert}
use Rattle.run_list.specs.Runs.{is_cut}
use Rattle.slab.specs.Slab.{get}
use Rattle.channel_hub.specs.DueOrder.{due_order, has_deadline}
use Rattle.channel_hub.proofs.DueSlots.{before_cut}
use Rattle.channel_hub.proofs.Inserting.{insert_here}
use Rattle.channel_hub.proofs.due_slots.put_due.Goals as goal

pub place_of-at-requires : goal.place_of-at-requires
place_of-at-requires c =
    let f = get c.args.slots.now in
    let listed = c.requires.listed in
    subst (λ (l : List ℕ). is_cut (λ s. due_order f s c.args.slot) l ≡ true) (sym listed.1) (before_cut f listed.0 c.args.slot)

pub returns-then-may_expire-clause-items : goal.returns-then-may_expire-clause-items
returns-then-may_expire-clause-items c =
    let f = get c.args.slots.now in
    let expires : has_deadline (f c.args.slot) ≡ true = sym c.may_expire.ensures ∙ c.if-may_expire.true in
    rw expires (c.insert.ensures.items ∙ insert_here (due_order f) c.args.slot c.args.dues.now.items c.place_of-at.result c.place_of-at.ensures.front c.place_of-at.ensures.behind)

pub returns-else-may_expire-clause-items : goal.returns-else-may_expire-clause-items
returns-else-may_expire-clause-items c =
    let expires = sym c.may_expire.ensures ∙ c.if-may_expire.false in
    rw expires refl

pub returns-then-may_expire-clause-room : goal.returns-then-may_expire-clause-room
returns-then-may_expire-clause-room c =
    let longer = length-insert c.args.dues.now.items c.place_of-at.result c.args.slot c.place_of-at.ensures.within in
    rw c.insert.ensures.items (omega (arith, longer, c.insert.ensures.spare))
