use Rattle.std.proofs.Common.{◌∙◌, sym, ap, subst, ℕ, List, length, arith}
use Rattle.std.proofs.lemmas.List.Edits.{length-remove}
use Rattle.std.specs.Prelude.{Option, None, if◌then◌else◌}
use Rattle.std.specs.List.{remove}
use Rattle.byte_text.specs.Names.{same}
use Rattle.slab.specs.Slab.{get}
use Rattle.fence_index.specs.Numbered.{AreBoxed}
use Rattle.channel_hub.specs.Hubs.{AreInOrder, AreWhole, channels_in, mark_in}
use Rattle.channel_hub.specs.Named.{AreNamed}
use Rattle.channel_hub.proofs.Boxes.{boxed_remove, is_among}
use Rattle.channel_hub.proofs.Naming.{slots_remove}
use Rattle.channel_hub.proofs.Order.{at_place, channels_removed, order_remove, seat, within_order}
use Rattle.ordered_lists.specs.Slots.{has_at, others_apart}
use Rattle.channel_hub.specs.DueOrder.{dues_of}
use Rattle.channel_hub.proofs.DueSlots.{dues_same, dues_with, some_in}
use Rattle.channel_hub.proofs.Whole.{whole_removed}
use Rattle.channel_hub.proofs.indexed_channels.IndexedChannels.remove.Goals as goal

pub take_due-requires-clause-listed : goal.take_due-requires-clause-listed
take_due-requires-clause-listed c = (c.self.inside.order.items, c.self.invariant.expire)

pub take_due-requires-clause-there : goal.take_due-requires-clause-there
take_due-requires-clause-there c =
    let f = get c.self.inside.slots in
    let order = c.self.inside.order.items in
    let kept = c.self.invariant in
    let slot = c.remove-slot.result in
    let is = at_place order c.args.at 0 slot (within_order f order kept.ordered c.args.at (rw (← c.self.view_is) at c.requires)) c.remove-slot.ensures.taken in
    let one = some_in (f slot) (has_at f order (channels_in f order) c.args.at slot kept.ordered.stored is) in
    (dues_of f (remove order c.args.at), kept.expire ∙ dues_with f slot one.0 one.1 order c.args.at kept.ordered is)

pub remove-channel-requires : goal.remove-channel-requires
remove-channel-requires c =
    let f = get c.self.inside.slots in
    let order = c.self.inside.order.items in
    let is = at_place order c.args.at 0 c.remove-slot.result (within_order f order c.self.invariant.ordered c.args.at (rw (← c.self.view_is) at c.requires)) c.remove-slot.ensures.taken in
    has_at f order (channels_in f order) c.args.at c.remove-slot.result c.self.invariant.ordered.stored is

pub take_out-requires : goal.take_out-requires
take_out-requires c =
    let f = get c.self.inside.slots in
    let order = c.self.inside.order.items in
    let is = at_place order c.args.at 0 c.remove-slot.result (within_order f order c.self.invariant.ordered c.args.at (rw (← c.self.view_is) at c.requires)) c.remove-slot.ensures.taken in
    is_among f order c.self.inside.index.boxes c.args.at c.remove-slot.result c.remove-channel.result is c.remove-channel.ensures.value c.self.invariant.boxed

pub invariant_of-self : goal.invariant_of-self
invariant_of-self c =
    let f = get c.self.inside.slots in
    let g = get c.remove-channel.new.self in
    let slot = c.remove-slot.result in
    let at = c.args.at in
    let order = c.self.inside.order.items in
    let kept = c.self.invariant in
    let is = at_place order at 0 slot (within_order f order kept.ordered at (rw (← c.self.view_is) at c.requires)) c.remove-slot.ensures.taken in
    let others = c.remove-channel.ensures.updates.others in
    let whole : AreWhole (channels_in g (remove order at)) = rw (channels_removed f order kept.ordered g slot others at is) (whole_removed (channels_in f order) at kept.whole) in
    let boxed = boxed_remove f g slot others order c.take_out.new.self.boxes c.self.inside.index.boxes at c.remove-channel.result is kept.ordered.apart c.remove-channel.ensures.value c.take_out.ensures.boxes kept.boxed in
    let xs = channels_in f order in
    let channel = c.remove-channel.result in
    let under = c.take_out-2.new.self.slots in
    let named : AreNamed g (remove order at) under = λ n.
    c.take_out-2.ensures.slots n ∙ ap (λ (o : Option ℕ). if same channel.name n then None else o) (kept.named n)
    ∙ sym (slots_remove f g slot others channel c.remove-channel.ensures.value order xs kept.ordered.stored kept.ordered.apart kept.ordered.by_name at is n) in
    let items = sym c.remove-slot.ensures.items in
    let shorter = length-remove order at (within_order f order kept.ordered at (rw (← c.self.view_is) at c.requires)) in
    record {
      ordered = subst (AreInOrder g) items (order_remove f order kept.ordered g slot others at is);
      boxed = subst (λ (l : List ℕ). AreBoxed (mark_in g) l c.take_out.new.self.boxes) items boxed;
      named = subst (λ (l : List ℕ). AreNamed g l under) items named;
      whole = subst (λ (l : List ℕ). AreWhole (channels_in g l)) items whole;
      expire = c.take_due.ensures.items (dues_of f (remove order at)) (kept.expire ∙ dues_with f slot channel c.remove-channel.ensures.value order at kept.ordered is)
          ∙ sym (dues_same f g slot others (remove order at) (others_apart order at slot is kept.ordered.apart)) ∙ ap (dues_of g) items;
      taken = omega (arith, kept.taken, c.remove-channel.ensures.len, shorter, ap length items);
      room = λ some.
          let room = kept.room (rw (← c.take_out.ensures.prepared) some) in (
            c.take_out-2.ensures.ready room.0,
            omega (arith, room.1, c.remove-channel.ensures.len, c.remove-channel.ensures.capacity),
            omega (arith, room.2, c.remove-slot.ensures.spare),
            omega (arith, room.3, shorter, ap length items, c.take_due.ensures.room),
          );
    }

pub returns-clause-channels : goal.returns-clause-channels
returns-clause-channels c =
    let f = get c.self.inside.slots in
    let slot = c.remove-slot.result in
    let order = c.self.inside.order.items in
    let ordered = c.self.invariant.ordered in
    let is = at_place order c.args.at 0 slot (within_order f order ordered c.args.at (rw (← c.self.view_is) at c.requires)) c.remove-slot.ensures.taken in
    rw (← c.self.view_is, c.remove-slot.ensures.items) (channels_removed f order ordered (get c.remove-channel.new.self) slot c.remove-channel.ensures.updates.others c.args.at is)

pub returns-clause-taken : goal.returns-clause-taken
returns-clause-taken c =
    let f = get c.self.inside.slots in
    let slot = c.remove-slot.result in
    let order = c.self.inside.order.items in
    let ordered = c.self.invariant.ordered in
    let is = at_place order c.args.at 0 slot (within_order f order ordered c.args.at (rw (← c.self.view_is) at c.requires)) c.remove-slot.ensures.taken in
    rw (← c.self.view_is) (seat f order ordered c.args.at slot c.remove-channel.result is c.remove-channel.ensures.value)
