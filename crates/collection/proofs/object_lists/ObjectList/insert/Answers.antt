use Rattle.std.proofs.Common.{◌≡◌, ◌≤◌, ℕ, true, subst, sym, List, arith}
use Rattle.std.specs.List.{insert}
use Rattle.std.proofs.lemmas.List.Edits.{length-insert}
use Rattle.slab.specs.Slab.{get}
use Rattle.world_data.specs.declared.objects.Object.{Object}
use Rattle.collection.specs.Objects.{are_by_id}
use Rattle.collection.specs.Slotted.{AreKept}
use Rattle.collection.proofs.Numbers.{among_new}
use Rattle.collection.proofs.Slots.{length_at, free_key, insert_at, slotted_insert}
use Rattle.collection.proofs.Dues.{others_insert, others_kept, others_apart, others_fewer, dues_put}
use Rattle.collection.proofs.InTree.{tree_insert}
use Rattle.collection.proofs.Cheap.{as_many}
use Rattle.collection.proofs.object_lists.ObjectList.insert.Goals as goal

pub insert-requires-clause-within : goal.insert-requires-clause-within
insert-requires-clause-within g c =
    let len = length_at (get c.self.inside.slots) c.self.inside.keys.items c.self.invariant.slotted.stored in
    let within = rw (← c.self.view_is) at c.requires.within in
    subst (λ (n : ℕ). c.args.i ≤ n) len within

pub put_due-requires-clause-order : goal.put_due-requires-clause-order
put_due-requires-clause-order g c =
    let f = get c.self.inside.slots in
    let g = get c.insert_reserved-key.new.self in
    let key = c.insert_reserved-key.result in
    let keys = c.self.inside.keys.items in
    let o = others_insert f keys c.self.inside.dues.items key c.args.i c.insert_reserved-key.ensures.was_vacant c.self.invariant.expiring in
    (others_kept f g key c.insert_reserved-key.ensures.updates.others (insert keys c.args.i key) c.self.inside.dues.items o).order

pub put_due-requires-clause-apart : goal.put_due-requires-clause-apart
put_due-requires-clause-apart g c =
    let f = get c.self.inside.slots in
    let g = get c.insert_reserved-key.new.self in
    let key = c.insert_reserved-key.result in
    let keys = c.self.inside.keys.items in
    let done = c.insert_reserved-key.ensures.updates in
    let vacant = c.insert_reserved-key.ensures.was_vacant in
    let o = others_insert f keys c.self.inside.dues.items key c.args.i vacant c.self.invariant.expiring in
    let kept = others_kept f g key done.others (insert keys c.args.i key) c.self.inside.dues.items o in
    let none = free_key f key keys vacant c.self.invariant.slotted.stored in
    let objects = insert_at f g key done.others c.args.object keys c.args.i c.self.invariant.slotted.stored none done.changed in
    let asc = rw (← c.self.view_is) at c.requires.by_id in
    let slotted = slotted_insert f g key done.others keys c.self.invariant.slotted c.args.object c.args.i vacant done.changed in
    others_apart g (insert keys c.args.i key) key c.self.inside.dues.items kept slotted.stored (subst (λ (l : List Object). are_by_id l ≡ true) (sym objects) asc) (among_new key keys c.args.i)

pub put_due-requires-clause-room : goal.put_due-requires-clause-room
put_due-requires-clause-room g c =
    let f = get c.self.inside.slots in
    let g = get c.insert_reserved-key.new.self in
    let key = c.insert_reserved-key.result in
    let keys = c.self.inside.keys.items in
    let o = others_insert f keys c.self.inside.dues.items key c.args.i c.insert_reserved-key.ensures.was_vacant c.self.invariant.expiring in
    let fewer = others_fewer f (insert keys c.args.i key) key c.self.inside.dues.items o (among_new key keys c.args.i) in
    let within = rw (← c.self.view_is) at c.requires.within in
    let le = subst (λ (n : ℕ). c.args.i ≤ n) (length_at f keys c.self.invariant.slotted.stored) within in
    let longer = length-insert keys c.args.i key le in
    let room = rw (← c.self.view_is) at c.requires.room in
    λ e. omega (arith, fewer, longer, room)

pub invariant_of-self : goal.invariant_of-self
invariant_of-self g c =
    let f = get c.self.inside.slots in
    let g = get c.insert_reserved-key.new.self in
    let key = c.insert_reserved-key.result in
    let keys = c.self.inside.keys.items in
    let done = c.insert_reserved-key.ensures.updates in
    let vacant = c.insert_reserved-key.ensures.was_vacant in
    let o = others_insert f keys c.self.inside.dues.items key c.args.i vacant c.self.invariant.expiring in
    let kept = others_kept f g key done.others (insert keys c.args.i key) c.self.inside.dues.items o in
    let slotted = slotted_insert f g key done.others keys c.self.invariant.slotted c.args.object c.args.i vacant done.changed in
    let expiring = dues_put g (insert keys c.args.i key) key c.self.inside.dues.items kept c.put_due.new.dues.items (among_new key keys c.args.i) c.put_due.ensures.order c.put_due.ensures.among in
    let within = rw (← c.self.view_is) at c.requires.within in
    let le = subst (λ (n : ℕ). c.args.i ≤ n) (length_at f keys c.self.invariant.slotted.stored) within in
    let longer = length-insert keys c.args.i key le in
    let room = rw (← c.self.view_is) at c.requires.room in
    let none = free_key f key keys vacant c.self.invariant.slotted.stored in
    let in_tree = tree_insert f g key done.others keys c.args.i c.self.inside.boxes.pairs c.put_box.new.boxes.pairs none c.self.invariant.in_tree c.put_box.ensures.pairs c.put_box.ensures.whole in
    let made : AreKept g (insert keys c.args.i key) c.put_due.new.dues c.put_box.new.boxes = record { slotted = slotted; expiring = expiring; room = omega (arith, longer, room, c.put_due.ensures.room); in_tree = in_tree } in
    subst (λ (l : List ℕ). AreKept g l c.put_due.new.dues c.put_box.new.boxes) (sym c.insert.ensures.items) made

pub returns-clause-objects : goal.returns-clause-objects
returns-clause-objects g c =
    let f = get c.self.inside.slots in
    let g = get c.insert_reserved-key.new.self in
    let key = c.insert_reserved-key.result in
    let keys = c.self.inside.keys.items in
    let done = c.insert_reserved-key.ensures.updates in
    let none = free_key f key keys c.insert_reserved-key.ensures.was_vacant c.self.invariant.slotted.stored in
    rw (← c.self.view_is, c.insert.ensures.items) (insert_at f g key done.others c.args.object keys c.args.i c.self.invariant.slotted.stored none done.changed)

pub returns-clause-cost : goal.returns-clause-cost
returns-clause-cost g c =
    let many = as_many (get c.self.inside.slots) c.self.inside.keys.items c.self.inside.boxes.pairs c.self.invariant.in_tree.boxed c.self.invariant.slotted.stored in
    rw (← c.self.view_is, ← many) c.put_box.ensures.cost
