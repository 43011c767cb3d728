use Rattle.std.proofs.Common.{◌≡◌, ◌≢◌, ◌<◌, ◌∙◌, ℕ, Bool, List, length, true, false, refl, ap, sym, subst, arith}
use Rattle.std.specs.Prelude.{Some, is_some, Contains}
use Rattle.planar_geom.specs.Points.{Bounds}
use Rattle.rtree.specs.Pairs.{Pair, pair}
use Rattle.collection.specs.Boxed.{box_in, pair_at, IsMoved}
use Rattle.slab.specs.Slab.{get}
use Rattle.world_data.specs.declared.objects.Object.{Object}
use Rattle.run_list.specs.Runs.{Sequence}
use Rattle.collection.specs.Deadlines.{AreDues, rank_of}
use Rattle.collection.specs.Objects.{are_by_id}
use Rattle.collection.proofs.Numbers.{among_at}
use Rattle.collection.proofs.Slots.{within_keys, stored_at, get_at, has_one, set_at, slotted_set}
use Rattle.collection.proofs.Dues.{others_taken, others_kept, others_apart, others_fewer, dues_alike, dues_put, listed}
use Rattle.collection.proofs.InTree.{pair_there, tree_set}
use Rattle.collection.proofs.Cheap.{as_many}
use Rattle.collection.proofs.object_lists.ObjectList.exchange.Goals as goal

pub at-key-requires : goal.at-key-requires
at-key-requires g c =
    let within = rw (← c.self.view_is) at c.requires.within in
    within_keys (get c.self.inside.slots) c.self.inside.keys.items c.args.i c.self.invariant.slotted.stored within

pub take_moved-requires-clause-there : goal.take_moved-requires-clause-there
take_moved-requires-clause-there g c =
    let f = get c.self.inside.slots in
    let keys = c.self.inside.keys.items in
    let key = c.at-key.result in
    let within = rw (← c.self.view_is) at c.requires.within in
    let lt = within_keys f keys c.args.i c.self.invariant.slotted.stored within in
    listed f keys c.self.inside.dues.items key c.self.invariant.expiring (among_at key keys c.args.i 0 lt c.at-key.ensures)

pub remove-old-requires : goal.remove-old-requires
remove-old-requires g c =
    let f = get c.self.inside.slots in
    let keys = c.self.inside.keys.items in
    let within = rw (← c.self.view_is) at c.requires.within in
    let lt = within_keys f keys c.args.i c.self.invariant.slotted.stored within in
    has_one f c.at-key.result (ap (λ n. is_some (f n)) c.at-key.ensures ∙ stored_at f keys c.args.i 0 lt c.self.invariant.slotted.stored)

pub put_moved-requires-clause-order : goal.put_moved-requires-clause-order
put_moved-requires-clause-order g c = λ moves.
    let f = get c.self.inside.slots in
    let g = get c.insert_reserved.new.self in
    let key = c.at-key.result in
    let keys = c.self.inside.keys.items in
    let dues = c.take_moved.new.dues.items in
    let same : c.insert_reserved.result ≡ key = c.insert_reserved.ensures.key ∙ c.remove-old.ensures.key_is_next in
    let others : (other : ℕ) → other ≢ key → g other ≡ f other = λ other ne. c.insert_reserved.ensures.updates.others other (λ e. ne (e ∙ same)) ∙ c.remove-old.ensures.updates.others other ne in
    let o = others_taken f keys c.self.inside.dues.items dues key c.self.invariant.expiring c.take_moved.ensures.order (c.take_moved.ensures.among moves) in
    (others_kept f g key others keys dues o).order

pub put_moved-requires-clause-apart : goal.put_moved-requires-clause-apart
put_moved-requires-clause-apart g c = λ moves.
    let f = get c.self.inside.slots in
    let g = get c.insert_reserved.new.self in
    let key = c.at-key.result in
    let keys = c.self.inside.keys.items in
    let dues = c.take_moved.new.dues.items in
    let within = rw (← c.self.view_is) at c.requires.within in
    let lt = within_keys f keys c.args.i c.self.invariant.slotted.stored within in
    let same : c.insert_reserved.result ≡ key = c.insert_reserved.ensures.key ∙ c.remove-old.ensures.key_is_next in
    let new : g key ≡ Some c.args.object = ap g (sym same) ∙ c.insert_reserved.ensures.updates.changed in
    let others : (other : ℕ) → other ≢ key → g other ≡ f other = λ other ne. c.insert_reserved.ensures.updates.others other (λ e. ne (e ∙ same)) ∙ c.remove-old.ensures.updates.others other ne in
    let o = others_taken f keys c.self.inside.dues.items dues key c.self.invariant.expiring c.take_moved.ensures.order (c.take_moved.ensures.among moves) in
    let kept = others_kept f g key others keys dues o in
    let slotted = slotted_set f g key others keys c.self.invariant.slotted c.args.object c.args.i 0 lt c.at-key.ensures new in
    let objects = set_at f g key others c.args.object keys c.args.i 0 c.self.invariant.slotted.stored c.self.invariant.slotted.apart lt c.at-key.ensures new in
    let asc = rw (← c.self.view_is) at c.requires.by_id in
    others_apart g keys key dues kept slotted.stored (subst (λ (l : List Object). are_by_id l ≡ true) (sym objects) asc) (among_at key keys c.args.i 0 lt c.at-key.ensures)

pub put_moved-requires-clause-room : goal.put_moved-requires-clause-room
put_moved-requires-clause-room g c = λ moves.
    let f = get c.self.inside.slots in
    let key = c.at-key.result in
    let keys = c.self.inside.keys.items in
    let dues = c.take_moved.new.dues.items in
    let within = rw (← c.self.view_is) at c.requires.within in
    let lt = within_keys f keys c.args.i c.self.invariant.slotted.stored within in
    let o = others_taken f keys c.self.inside.dues.items dues key c.self.invariant.expiring c.take_moved.ensures.order (c.take_moved.ensures.among moves) in
    let fewer = others_fewer f keys key dues o (among_at key keys c.args.i 0 lt c.at-key.ensures) in
    λ e. omega (arith, fewer, c.self.invariant.room, c.take_moved.ensures.room)

pub move_box-requires-clause-there : goal.move_box-requires-clause-there
move_box-requires-clause-there g c =
    let g = get c.insert_reserved.new.self in
    let key = c.at-key.result in
    let same : c.insert_reserved.result ≡ key = c.insert_reserved.ensures.key ∙ c.remove-old.ensures.key_is_next in
    has_one g key (ap (λ (n : ℕ). is_some (g n)) (sym same) ∙ ap is_some c.insert_reserved.ensures.updates.changed)

pub move_box-requires-clause-boxed : goal.move_box-requires-clause-boxed
move_box-requires-clause-boxed g c =
    let f = get c.self.inside.slots in
    let keys = c.self.inside.keys.items in
    let key = c.at-key.result in
    let within = rw (← c.self.view_is) at c.requires.within in
    let lt = within_keys f keys c.args.i c.self.invariant.slotted.stored within in
    let was : pair c.box_of.result key ≡ pair_at f key = ap (λ (b : Bounds). pair b key) (c.box_of.ensures ∙ ap box_in (sym c.remove-old.ensures.value)) in
    subst (Contains c.self.inside.boxes.pairs) (sym was) (pair_there f keys c.self.inside.boxes.pairs key c.self.invariant.in_tree.boxed (among_at key keys c.args.i 0 lt c.at-key.ensures))

pub invariant_of-self : goal.invariant_of-self
invariant_of-self g c =
    let f = get c.self.inside.slots in
    let g = get c.insert_reserved.new.self in
    let key = c.at-key.result in
    let keys = c.self.inside.keys.items in
    let within = rw (← c.self.view_is) at c.requires.within in
    let lt = within_keys f keys c.args.i c.self.invariant.slotted.stored within in
    let same : c.insert_reserved.result ≡ key = c.insert_reserved.ensures.key ∙ c.remove-old.ensures.key_is_next in
    let new : g key ≡ Some c.args.object = ap g (sym same) ∙ c.insert_reserved.ensures.updates.changed in
    let others : (other : ℕ) → other ≢ key → g other ≡ f other = λ other ne. c.insert_reserved.ensures.updates.others other (λ e. ne (e ∙ same)) ∙ c.remove-old.ensures.updates.others other ne in
    let was : pair c.box_of.result key ≡ pair_at f key = ap (λ (b : Bounds). pair b key) (c.box_of.ensures ∙ ap box_in (sym c.remove-old.ensures.value)) in
    record {
      slotted = slotted_set f g key others keys c.self.invariant.slotted c.args.object c.args.i 0 lt c.at-key.ensures new;
      expiring = expiring lt new others c.is_moved-moves.result refl;
      room = omega (arith, c.self.invariant.room, c.take_moved.ensures.room, c.put_moved.ensures.room);
      in_tree = tree_set f g key others keys c.args.i 0 c.self.inside.boxes.pairs c.move_box.new.boxes.pairs c.self.invariant.slotted.apart lt c.at-key.ensures c.self.invariant.in_tree (subst (λ (p : Pair). IsMoved p (pair_at g key) c.self.inside.boxes.pairs c.move_box.new.boxes.pairs) was c.move_box.ensures.pairs) c.move_box.ensures.whole;
    }
  where
    expiring : c.args.i < length c.self.inside.keys.items → get c.insert_reserved.new.self c.at-key.result ≡ Some c.args.object
        → ((other : ℕ) → other ≢ c.at-key.result → get c.insert_reserved.new.self other ≡ get c.self.inside.slots other)
        → (b : Bool) → c.is_moved-moves.result ≡ b → AreDues (get c.insert_reserved.new.self) c.self.inside.keys.items c.put_moved.new.dues.items
    expiring lt new others true moves =
        let f = get c.self.inside.slots in
        let g = get c.insert_reserved.new.self in
        let key = c.at-key.result in
        let keys = c.self.inside.keys.items in
        let dues = c.take_moved.new.dues.items in
        let o = others_taken f keys c.self.inside.dues.items dues key c.self.invariant.expiring c.take_moved.ensures.order (c.take_moved.ensures.among moves) in
        let kept = others_kept f g key others keys dues o in
        dues_put g keys key dues kept c.put_moved.new.dues.items (among_at key keys c.args.i 0 lt c.at-key.ensures) (c.put_moved.ensures.order moves) (c.put_moved.ensures.among moves)
    expiring lt new others false moves =
        let f = get c.self.inside.slots in
        let g = get c.insert_reserved.new.self in
        let key = c.at-key.result in
        let keys = c.self.inside.keys.items in
        let stays : c.put_moved.new.dues ≡ c.self.inside.dues = c.put_moved.ensures.stays moves ∙ c.take_moved.ensures.stays moves in
        subst (λ (d : Sequence). AreDues g keys d.items) (sym stays) (dues_alike f g key others keys c.self.inside.dues.items (ap rank_of new ∙ sym (c.is_moved-moves.ensures moves)) c.self.invariant.expiring)

pub returns-clause-objects : goal.returns-clause-objects
returns-clause-objects g c =
    let f = get c.self.inside.slots in
    let g = get c.insert_reserved.new.self in
    let key = c.at-key.result in
    let keys = c.self.inside.keys.items in
    let within = rw (← c.self.view_is) at c.requires.within in
    let lt = within_keys f keys c.args.i c.self.invariant.slotted.stored within in
    let same : c.insert_reserved.result ≡ key = c.insert_reserved.ensures.key ∙ c.remove-old.ensures.key_is_next in
    let new : g key ≡ Some c.args.object = ap g (sym same) ∙ c.insert_reserved.ensures.updates.changed in
    let others : (other : ℕ) → other ≢ key → g other ≡ f other = λ other ne. c.insert_reserved.ensures.updates.others other (λ e. ne (e ∙ same)) ∙ c.remove-old.ensures.updates.others other ne in
    rw (← c.self.view_is) (set_at f g key others c.args.object keys c.args.i 0 c.self.invariant.slotted.stored c.self.invariant.slotted.apart lt c.at-key.ensures new)

pub returns-clause-taken : goal.returns-clause-taken
returns-clause-taken g c =
    let f = get c.self.inside.slots in
    let keys = c.self.inside.keys.items in
    let within = rw (← c.self.view_is) at c.requires.within in
    let lt = within_keys f keys c.args.i c.self.invariant.slotted.stored within in
    rw (← c.self.view_is) (get_at f keys c.args.i 0 lt c.self.invariant.slotted.stored ∙ ap f (sym c.at-key.ensures) ∙ c.remove-old.ensures.value)

pub returns-clause-cost : goal.returns-clause-cost
returns-clause-cost g c =
    let many = as_many (get c.self.inside.slots) c.self.inside.keys.items c.self.inside.boxes.pairs c.self.invariant.in_tree.boxed c.self.invariant.slotted.stored in
    rw (← c.self.view_is, ← many) c.move_box.ensures.cost
