use Rattle.std.proofs.Common.{◌≤◌, ◌+◌, ◌∙◌, ℕ, List, length, ap, subst, sym, arith}
use Rattle.std.specs.Prelude.{is_some}
use Rattle.std.specs.List.{remove}
use Rattle.std.proofs.lemmas.List.Edits.{length-remove}
use Rattle.slab.specs.Slab.{get, slab_len}
use Rattle.collection.specs.Slotted.{AreKept}
use Rattle.collection.proofs.Numbers.{among_at}
use Rattle.collection.proofs.Rooms.{room_removed}
use Rattle.collection.proofs.Slots.{within_keys, stored_at, get_at, has_one, remove_at, slotted_remove}
use Rattle.collection.proofs.Dues.{others_taken, others_kept, dues_removed, listed}
use Rattle.collection.proofs.InTree.{pair_there, tree_remove}
use Rattle.collection.proofs.Cheap.{as_many}
use Rattle.collection.proofs.object_lists.ObjectList.remove.Goals as goal

pub remove-key-requires : goal.remove-key-requires
remove-key-requires g c =
    let within = rw (← c.self.view_is) at c.requires in
    within_keys (get c.self.inside.slots) c.self.inside.keys.items c.args.i c.self.invariant.slotted.stored within

pub take_due-requires-clause-there : goal.take_due-requires-clause-there
take_due-requires-clause-there g c =
    let f = get c.self.inside.slots in
    let keys = c.self.inside.keys.items in
    let key = c.remove-key.result in
    let within = rw (← c.self.view_is) at c.requires in
    let lt = within_keys f keys c.args.i c.self.invariant.slotted.stored within in
    listed f keys c.self.inside.dues.items key c.self.invariant.expiring (among_at key keys c.args.i 0 lt c.remove-key.ensures.taken)

pub take_box-requires-clause-there : goal.take_box-requires-clause-there
take_box-requires-clause-there g c =
    let f = get c.self.inside.slots in
    let keys = c.self.inside.keys.items in
    let within = rw (← c.self.view_is) at c.requires in
    let lt = within_keys f keys c.args.i c.self.invariant.slotted.stored within in
    has_one f c.remove-key.result (ap (λ n. is_some (f n)) c.remove-key.ensures.taken ∙ stored_at f keys c.args.i 0 lt c.self.invariant.slotted.stored)

pub take_box-requires-clause-boxed : goal.take_box-requires-clause-boxed
take_box-requires-clause-boxed g c =
    let f = get c.self.inside.slots in
    let keys = c.self.inside.keys.items in
    let key = c.remove-key.result in
    let within = rw (← c.self.view_is) at c.requires in
    let lt = within_keys f keys c.args.i c.self.invariant.slotted.stored within in
    pair_there f keys c.self.inside.boxes.pairs key c.self.invariant.in_tree.boxed (among_at key keys c.args.i 0 lt c.remove-key.ensures.taken)

pub remove-requires : goal.remove-requires
remove-requires g c =
    let f = get c.self.inside.slots in
    let keys = c.self.inside.keys.items in
    let within = rw (← c.self.view_is) at c.requires in
    let lt = within_keys f keys c.args.i c.self.invariant.slotted.stored within in
    has_one f c.remove-key.result (ap (λ n. is_some (f n)) c.remove-key.ensures.taken ∙ stored_at f keys c.args.i 0 lt c.self.invariant.slotted.stored)

pub invariant_of-self : goal.invariant_of-self
invariant_of-self g c =
    let f = get c.self.inside.slots in
    let g = get c.remove.new.self in
    let key = c.remove-key.result in
    let keys = c.self.inside.keys.items in
    let dues = c.take_due.new.dues.items in
    let within = rw (← c.self.view_is) at c.requires in
    let lt = within_keys f keys c.args.i c.self.invariant.slotted.stored within in
    let slotted = slotted_remove f g key c.remove.ensures.updates.others keys c.self.invariant.slotted c.args.i 0 lt c.remove-key.ensures.taken in
    let o = others_taken f keys c.self.inside.dues.items dues key c.self.invariant.expiring c.take_due.ensures.order c.take_due.ensures.among in
    let kept = others_kept f g key c.remove.ensures.updates.others keys dues o in
    let expiring = dues_removed g keys dues key c.args.i 0 c.self.invariant.slotted.apart lt c.remove-key.ensures.taken kept in
    let shorter = length-remove keys c.args.i lt in
    let in_tree = tree_remove f g key c.remove.ensures.updates.others keys c.args.i 0 c.self.inside.boxes.pairs c.take_box.new.boxes.pairs c.self.invariant.slotted.apart lt c.remove-key.ensures.taken c.self.invariant.in_tree c.take_box.ensures.pairs in
    let made : AreKept g (remove keys c.args.i) c.take_due.new.dues c.take_box.new.boxes = record { slotted = slotted; expiring = expiring; room = omega (arith, shorter, c.self.invariant.room, c.take_due.ensures.room); in_tree = in_tree } in
    subst (λ (l : List ℕ). AreKept g l c.take_due.new.dues c.take_box.new.boxes) (sym c.remove-key.ensures.items) made

pub returns-clause-objects : goal.returns-clause-objects
returns-clause-objects g c =
    let f = get c.self.inside.slots in
    let g = get c.remove.new.self in
    let key = c.remove-key.result in
    let keys = c.self.inside.keys.items in
    let within = rw (← c.self.view_is) at c.requires in
    let lt = within_keys f keys c.args.i c.self.invariant.slotted.stored within in
    rw (← c.self.view_is, c.remove-key.ensures.items) (remove_at f g key c.remove.ensures.updates.others keys c.args.i 0 c.self.invariant.slotted.stored c.self.invariant.slotted.apart lt c.remove-key.ensures.taken)

pub returns-clause-taken : goal.returns-clause-taken
returns-clause-taken g c =
    let f = get c.self.inside.slots in
    let keys = c.self.inside.keys.items in
    let within = rw (← c.self.view_is) at c.requires in
    let lt = within_keys f keys c.args.i c.self.invariant.slotted.stored within in
    rw (← c.self.view_is) (get_at f keys c.args.i 0 lt c.self.invariant.slotted.stored ∙ ap f (sym c.remove-key.ensures.taken) ∙ c.remove.ensures.value)

pub returns-clause-spare : goal.returns-clause-spare
returns-clause-spare g c =
    let f = get c.self.inside.slots in
    let keys = c.self.inside.keys in
    let dues = c.self.inside.dues in
    let left = c.take_due.new.dues in
    let within = rw (← c.self.view_is) at c.requires in
    let lt = within_keys f keys.items c.args.i c.self.invariant.slotted.stored within in
    let shorter = length-remove keys.items c.args.i lt in
    rw (← c.self.view_is, c.remove-key.ensures.items, c.remove.ensures.capacity)
    (room_removed c.self.inside.boxes.spare c.take_box.new.boxes.spare (slab_len c.self.inside.slots) (slab_len c.remove.new.self) c.self.inside.slots.capacity keys.spare c.remove-key.new.self.spare (length dues.items + dues.spare) (length left.items + left.spare) (length keys.items) (length (remove keys.items c.args.i))
    c.remove.ensures.len (subst (λ (n : ℕ). slab_len c.remove.new.self + 1 ≤ n) c.remove.ensures.capacity c.remove.ensures.room) c.remove-key.ensures.spare c.take_due.ensures.room shorter c.self.invariant.room c.take_box.ensures.room)

pub returns-clause-cost : goal.returns-clause-cost
returns-clause-cost g c =
    let many = as_many (get c.self.inside.slots) c.self.inside.keys.items c.self.inside.boxes.pairs c.self.invariant.in_tree.boxed c.self.invariant.slotted.stored in
    rw (← c.self.view_is, ← many) c.take_box.ensures.cost
