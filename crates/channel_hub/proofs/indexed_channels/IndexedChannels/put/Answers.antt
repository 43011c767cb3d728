use Rattle.std.proofs.Common.{◌≡◌, ◌≢◌, ◌≤◌, ◌∙◌, ℕ, refl, sym, ap, subst, List, length, arith}
use Rattle.std.proofs.lemmas.List.Edits.{length-insert, length-remove}
use Rattle.std.proofs.lemmas.Option.{slice_get_within}
use Rattle.std.specs.Prelude.{Option, Some, None, if◌then◌else◌}
use Rattle.std.specs.List.{insert, remove}
use Rattle.byte_text.specs.Names.{same}
use Rattle.slab.specs.Slab.{get}
use Rattle.fence_index.specs.Numbered.{AreBoxed}
use Rattle.channel_hub.specs.Hubs.{AreInOrder, AreWhole, channels_in, mark_in}
use Rattle.channel_hub.specs.Named.{AreNamed, slot_of}
use Rattle.channel_hub.proofs.Boxes.{boxed_insert, boxed_set, is_among}
use Rattle.channel_hub.proofs.Naming.{found_by_name, is_there, lacking_by_name, name_there, seat_by_name, slots_insert, slots_set}
use Rattle.channel_hub.proofs.Order.{channels_insert, channels_set, order_insert, order_set}
use Rattle.ordered_lists.specs.Slots.{as_many, free_slot, others_apart}
use Rattle.fence_index.specs.Marks.{mark_of}
use Rattle.channel_hub.specs.DueOrder.{dues_of, with_due}
use Rattle.channel_hub.proofs.DueSlots.{dues_same, dues_with, fewer_dues}
use Rattle.channel_hub.proofs.Inserting.{at_inserted, removed_insert}
use Rattle.channel_hub.proofs.Whole.{none_prepared, whole_put}
use Rattle.channel_hub.proofs.indexed_channels.IndexedChannels.put.Goals as goal

pub index-requires : goal.index-requires
index-requires c =
    let channel = c.args.channel in
    let f = get c.self.inside.slots in
    let order = c.self.inside.order.items in
    let xs = channels_in f order in
    let kept = c.self.invariant in
    let slot = c.in-Some.slot in
    let is : slot_of f order channel.name ≡ Some slot = sym (kept.named channel.name) ∙ sym c.get.ensures ∙ c.in-Some.is in
    is_there f order channel.name slot is

pub take_out-requires : goal.take_out-requires
take_out-requires c =
    let channel = c.args.channel in
    let f = get c.self.inside.slots in
    let order = c.self.inside.order.items in
    let xs = channels_in f order in
    let kept = c.self.invariant in
    let slot = c.in-Some.slot in
    let is : slot_of f order channel.name ≡ Some slot = sym (kept.named channel.name) ∙ sym c.get.ensures ∙ c.in-Some.is in
    let seat = seat_by_name f order xs kept.ordered.stored kept.ordered.by_name channel.name slot is in
    is_among f order c.self.inside.index.boxes seat.0 slot c.index.result.now seat.1.0 c.index.ensures kept.boxed

pub take_due-requires-clause-listed : goal.take_due-requires-clause-listed
take_due-requires-clause-listed c = (c.self.inside.order.items, c.self.invariant.expire)

pub take_due-requires-clause-there : goal.take_due-requires-clause-there
take_due-requires-clause-there c =
    let channel = c.args.channel in
    let f = get c.self.inside.slots in
    let order = c.self.inside.order.items in
    let xs = channels_in f order in
    let kept = c.self.invariant in
    let slot = c.in-Some.slot in
    let is : slot_of f order channel.name ≡ Some slot = sym (kept.named channel.name) ∙ sym c.get.ensures ∙ c.in-Some.is in
    let seat = seat_by_name f order xs kept.ordered.stored kept.ordered.by_name channel.name slot is in
    (dues_of f (remove order seat.0), kept.expire ∙ dues_with f slot c.index.result.now c.index.ensures order seat.0 kept.ordered seat.1.0)

pub put_due-requires-clause-listed : goal.put_due-requires-clause-listed
put_due-requires-clause-listed c =
    let channel = c.args.channel in
    let f = get c.self.inside.slots in
    let order = c.self.inside.order.items in
    let xs = channels_in f order in
    let kept = c.self.invariant in
    let slot = c.in-Some.slot in
    let is : slot_of f order channel.name ≡ Some slot = sym (kept.named channel.name) ∙ sym c.get.ensures ∙ c.in-Some.is in
    let seat = seat_by_name f order xs kept.ordered.stored kept.ordered.by_name channel.name slot is in
    let g = get c.exchange-old.new.slots in
    let rest = c.take_due.ensures.items (dues_of f (remove order seat.0)) (kept.expire ∙ dues_with f slot c.index.result.now c.index.ensures order seat.0 kept.ordered seat.1.0) in
    (remove order seat.0, rest ∙ sym (dues_same f g slot c.exchange-old.ensures.updates.others (remove order seat.0) (others_apart order seat.0 slot seat.1.0 kept.ordered.apart)))

pub put_due-requires-clause-room : goal.put_due-requires-clause-room
put_due-requires-clause-room c =
    let channel = c.args.channel in
    let f = get c.self.inside.slots in
    let order = c.self.inside.order.items in
    let xs = channels_in f order in
    let kept = c.self.invariant in
    let slot = c.in-Some.slot in
    let is : slot_of f order channel.name ≡ Some slot = sym (kept.named channel.name) ∙ sym c.get.ensures ∙ c.in-Some.is in
    let seat = seat_by_name f order xs kept.ordered.stored kept.ordered.by_name channel.name slot is in
    let rest = ap length (c.take_due.ensures.items (dues_of f (remove order seat.0)) (kept.expire ∙ dues_with f slot c.index.result.now c.index.ensures order seat.0 kept.ordered seat.1.0)) in
    let few = fewer_dues f (remove order seat.0) in
    let shorter = length-remove order seat.0 (slice_get_within order seat.0 slot seat.1.0) in
    let ready : c.self.inside.index.prepared ≡ Some (mark_of channel) = rw (← c.self.view_is) at c.requires in
    let room = kept.room (rw ready refl) in
    λ e. omega (arith, rest, few, shorter, room.3, c.take_due.ensures.room)

pub invariant_of-self : goal.invariant_of-self
invariant_of-self c =
    let channel = c.args.channel in
    let f = get c.self.inside.slots in
    let order = c.self.inside.order.items in
    let xs = channels_in f order in
    let kept = c.self.invariant in
    let slot = c.in-Some.slot in
    let is : slot_of f order channel.name ≡ Some slot = sym (kept.named channel.name) ∙ sym c.get.ensures ∙ c.in-Some.is in
    let seat = seat_by_name f order xs kept.ordered.stored kept.ordered.by_name channel.name slot is in
    let g = get c.exchange-old.new.slots in
    let done = c.exchange-old.ensures.updates in
    let is_set = channels_set f order kept.ordered g slot done.others seat.0 channel seat.1.1 seat.1.0 done.changed in
    let one = name_there f order channel.name slot c.index.result.now is c.index.ensures in
    let ordered = order_set f order kept.ordered g slot done.others seat.0 channel seat.1.1 seat.1.0 done.changed in
    let rest = c.take_due.ensures.items (dues_of f (remove order seat.0)) (kept.expire ∙ dues_with f slot c.index.result.now c.index.ensures order seat.0 kept.ordered seat.1.0)
    ∙ sym (dues_same f g slot done.others (remove order seat.0) (others_apart order seat.0 slot seat.1.0 kept.ordered.apart)) in
    record {
      ordered = ordered;
      boxed = boxed_set f g slot done.others order c.self.inside.index.boxes c.take_out.new.self.boxes c.put.new.self.boxes seat.0 c.index.result.now channel seat.1.0 kept.ordered.apart c.index.ensures done.changed
          c.take_out.ensures.boxes c.put.ensures.boxes kept.boxed;
      named = λ n. kept.named n ∙ sym (slots_set f g slot done.others c.index.result.now channel c.index.ensures done.changed one order n);
      whole = rw is_set (whole_put channel xs kept.whole c.watch_is_whole.ensures);
      expire = c.put_due.ensures.items ∙ ap (with_due g slot) rest ∙ sym (dues_with g slot channel done.changed order seat.0 ordered seat.1.0);
      taken = c.exchange-old.ensures.len ∙ kept.taken;
      room = λ some. none_prepared c.put.new.self.prepared c.put.ensures.prepared some;
    }

pub returns-in-Some-clause-channels : goal.returns-in-Some-clause-channels
returns-in-Some-clause-channels c =
    let channel = c.args.channel in
    let f = get c.self.inside.slots in
    let order = c.self.inside.order.items in
    let xs = channels_in f order in
    let kept = c.self.invariant in
    let slot = c.in-Some.slot in
    let is : slot_of f order channel.name ≡ Some slot = sym (kept.named channel.name) ∙ sym c.get.ensures ∙ c.in-Some.is in
    let seat = seat_by_name f order xs kept.ordered.stored kept.ordered.by_name channel.name slot is in
    let g = get c.exchange-old.new.slots in
    let done = c.exchange-old.ensures.updates in
    rw (← c.self.view_is) (channels_set f order kept.ordered g slot done.others seat.0 channel seat.1.1 seat.1.0 done.changed)

pub returns-in-Some-clause-replaced : goal.returns-in-Some-clause-replaced
returns-in-Some-clause-replaced c =
    let channel = c.args.channel in
    let f = get c.self.inside.slots in
    let order = c.self.inside.order.items in
    let xs = channels_in f order in
    let kept = c.self.invariant in
    let slot = c.in-Some.slot in
    let is : slot_of f order channel.name ≡ Some slot = sym (kept.named channel.name) ∙ sym c.get.ensures ∙ c.in-Some.is in
    rw (← c.self.view_is) (sym (found_by_name f order xs kept.ordered.stored channel.name slot is ∙ c.exchange-old.ensures.taken))

pub invariant_of-self-in-None : goal.invariant_of-self-in-None
invariant_of-self-in-None c =
    let channel = c.args.channel in
    let f = get c.self.inside.slots in
    let order = c.self.inside.order.items in
    let xs = channels_in f order in
    let kept = c.self.invariant in
    let none : slot_of f order channel.name ≡ None = sym (kept.named channel.name) ∙ sym c.get.ensures ∙ c.in-None.is in
    let lacks = lacking_by_name f order xs kept.ordered.stored channel.name none in
    let g = get c.insert_reserved.new.self in
    let slot = c.vacant_key-slot.result in
    let at = c.place_of-at.result in
    let free = c.place_of-at.ensures.free lacks in
    let same_slot : c.insert_reserved.result ≡ slot = c.insert_reserved.ensures.key ∙ sym c.vacant_key-slot.ensures.value in
    let new : g slot ≡ Some channel = ap g (sym same_slot) ∙ c.insert_reserved.ensures.updates.changed in
    let others : (other : ℕ) → other ≢ slot → g other ≡ f other = λ other ne. c.insert_reserved.ensures.updates.others other (λ e. ne (e ∙ same_slot)) in
    let vacant = c.vacant_key-slot.ensures.vacant in
    let made = channels_insert f order kept.ordered g slot others at channel free vacant new in
    let whole : AreWhole (channels_in g (insert order at slot)) = rw made (whole_put channel xs kept.whole c.watch_is_whole.ensures) in
    let other = free_slot f slot order xs vacant kept.ordered.stored in
    let boxed = boxed_insert f g slot others order c.self.inside.index.boxes c.put-in-None.new.self.boxes at channel other new c.put-in-None.ensures.boxes kept.boxed in
    let under = c.put-in-None-2.new.self.slots in
    let named : AreNamed g (insert order at slot) under = λ n.
    c.put-in-None-2.ensures n ∙ ap (λ (o : Option ℕ). if same channel.name n then Some slot else o) (kept.named n)
    ∙ sym (slots_insert f g slot others channel new order other none at n) in
    let items = sym c.insert.ensures.items in
    let ordered = order_insert f order kept.ordered g slot others at channel free vacant new in
    let many = as_many f order xs kept.ordered.stored in
    let le : at ≤ length order = omega (arith, free.within, many) in
    let longer = length-insert order at slot le in
    record {
      ordered = subst (AreInOrder g) items ordered;
      boxed = subst (λ (l : List ℕ). AreBoxed (mark_in g) l c.put-in-None.new.self.boxes) items boxed;
      named = subst (λ (l : List ℕ). AreNamed g l under) items named;
      whole = subst (λ (l : List ℕ). AreWhole (channels_in g l)) items whole;
      expire = c.put_due-in-None.ensures.items ∙ ap (with_due g slot) (kept.expire ∙ sym (dues_same f g slot others order other) ∙ ap (dues_of g) (sym (removed_insert order at slot le)))
          ∙ sym (dues_with g slot channel new (insert order at slot) at ordered (at_inserted order at slot le)) ∙ ap (dues_of g) items;
      taken = omega (arith, kept.taken, c.insert_reserved.ensures.len, longer, ap length items);
      room = λ some. none_prepared c.put-in-None.new.self.prepared c.put-in-None.ensures.prepared some;
    }

pub insert-requires-clause-within : goal.insert-requires-clause-within
insert-requires-clause-within c =
    let channel = c.args.channel in
    let f = get c.self.inside.slots in
    let order = c.self.inside.order.items in
    let xs = channels_in f order in
    let kept = c.self.invariant in
    let none : slot_of f order channel.name ≡ None = sym (kept.named channel.name) ∙ sym c.get.ensures ∙ c.in-None.is in
    let lacks = lacking_by_name f order xs kept.ordered.stored channel.name none in
    let free = c.place_of-at.ensures.free lacks in
    let many = as_many f order xs kept.ordered.stored in
    omega (arith, free.within, many)

pub put_due-requires-in-None-clause-listed : goal.put_due-requires-in-None-clause-listed
put_due-requires-in-None-clause-listed c =
    let f = get c.self.inside.slots in
    let order = c.self.inside.order.items in
    let kept = c.self.invariant in
    let g = get c.insert_reserved.new.self in
    let slot = c.vacant_key-slot.result in
    let same_slot : c.insert_reserved.result ≡ slot = c.insert_reserved.ensures.key ∙ sym c.vacant_key-slot.ensures.value in
    let others : (other : ℕ) → other ≢ slot → g other ≡ f other = λ other ne. c.insert_reserved.ensures.updates.others other (λ e. ne (e ∙ same_slot)) in
    (order, kept.expire ∙ sym (dues_same f g slot others order (free_slot f slot order (channels_in f order) c.vacant_key-slot.ensures.vacant kept.ordered.stored)))

pub put_due-requires-in-None-clause-room : goal.put_due-requires-in-None-clause-room
put_due-requires-in-None-clause-room c =
    let f = get c.self.inside.slots in
    let order = c.self.inside.order.items in
    let kept = c.self.invariant in
    let few = fewer_dues f order in
    let same = ap length kept.expire in
    let ready : c.self.inside.index.prepared ≡ Some (mark_of c.args.channel) = rw (← c.self.view_is) at c.requires in
    let room = kept.room (rw ready refl) in
    λ e. omega (arith, few, same, room.3)

pub returns-in-None-clause-channels : goal.returns-in-None-clause-channels
returns-in-None-clause-channels c =
    let channel = c.args.channel in
    let f = get c.self.inside.slots in
    let order = c.self.inside.order.items in
    let xs = channels_in f order in
    let kept = c.self.invariant in
    let none : slot_of f order channel.name ≡ None = sym (kept.named channel.name) ∙ sym c.get.ensures ∙ c.in-None.is in
    let lacks = lacking_by_name f order xs kept.ordered.stored channel.name none in
    let g = get c.insert_reserved.new.self in
    let slot = c.vacant_key-slot.result in
    let at = c.place_of-at.result in
    let free = c.place_of-at.ensures.free lacks in
    let same_slot : c.insert_reserved.result ≡ slot = c.insert_reserved.ensures.key ∙ sym c.vacant_key-slot.ensures.value in
    let new : g slot ≡ Some channel = ap g (sym same_slot) ∙ c.insert_reserved.ensures.updates.changed in
    let others : (other : ℕ) → other ≢ slot → g other ≡ f other = λ other ne. c.insert_reserved.ensures.updates.others other (λ e. ne (e ∙ same_slot)) in
    let vacant = c.vacant_key-slot.ensures.vacant in
    let made = channels_insert f order kept.ordered g slot others at channel free vacant new in
    rw (← c.self.view_is, c.insert.ensures.items) made

pub returns-in-None-clause-replaced : goal.returns-in-None-clause-replaced
returns-in-None-clause-replaced c =
    let channel = c.args.channel in
    let f = get c.self.inside.slots in
    let order = c.self.inside.order.items in
    let xs = channels_in f order in
    let kept = c.self.invariant in
    let none : slot_of f order channel.name ≡ None = sym (kept.named channel.name) ∙ sym c.get.ensures ∙ c.in-None.is in
    let lacks = lacking_by_name f order xs kept.ordered.stored channel.name none in
    rw (← c.self.view_is) (sym lacks)
