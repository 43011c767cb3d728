use Rattle.std.proofs.Common.{length, refl, ap, rules, arith}
use Rattle.slab.specs.Slab.{get, slab_len}
use Rattle.channel_hub.proofs.DueSlots.{fewer_dues}
use Rattle.channel_hub.proofs.Kept.{kept_more, same_boxes}
use Rattle.channel_hub.proofs.indexed_channels.IndexedChannels.prepare.Goals as goal

pub invariant_of-self : goal.invariant_of-self
invariant_of-self c =
    let kept = c.self.invariant in
    let rest = c.reserve.ensures.rest_kept in
    kept_more (get c.self.inside.slots) (get c.reserve.new.self) c.self.inside.order c.self.inside.order c.self.inside.dues c.self.inside.dues c.self.inside.index c.self.inside.index c.self.inside.names c.self.inside.names
    (slab_len c.self.inside.slots) (slab_len c.reserve.new.self) c.self.inside.slots.capacity c.reserve.new.self.capacity (ap get rest) (ap slab_len rest) refl refl (same_boxes c.self.inside.index) refl
    (λ some. let room = kept.room some in (room.0, omega (arith, room.1, ap slab_len rest, c.reserve.ensures.capacity), room.2, room.3)) kept

pub invariant_of-self-in_err-reserve : goal.invariant_of-self-in_err-reserve
invariant_of-self-in_err-reserve c =
    let kept = c.self.invariant in
    let rest = c.reserve.ensures.rest_kept in
    kept_more (get c.self.inside.slots) (get c.reserve.new.self) c.self.inside.order c.reserve-2.new.self c.self.inside.dues c.self.inside.dues c.self.inside.index c.self.inside.index c.self.inside.names c.self.inside.names
    (slab_len c.self.inside.slots) (slab_len c.reserve.new.self) c.self.inside.slots.capacity c.reserve.new.self.capacity (ap get rest) (ap slab_len rest) c.reserve-2.ensures.items refl (same_boxes c.self.inside.index) refl
    (λ some. let room = kept.room some in (room.0, omega (arith, room.1, ap slab_len rest, c.reserve.ensures.capacity), omega (arith, room.2, c.reserve-2.ensures.kept), rw c.reserve-2.ensures.items room.3)) kept

pub overflow_sub-len : goal.overflow_sub-len
overflow_sub-len c =
    let f = get c.self.inside.slots in
    let order = c.self.inside.order.items in
    let fewer = fewer_dues f order in
    let same = ap length c.self.invariant.expire in
    let long = ap length c.reserve-2.ensures.items in
    omega (arith, fewer, same, long, c.len.ensures.count, c.len-2.ensures.count)

pub invariant_of-self-in_err-reserve-2 : goal.invariant_of-self-in_err-reserve-2
invariant_of-self-in_err-reserve-2 c =
    let kept = c.self.invariant in
    let rest = c.reserve.ensures.rest_kept in
    kept_more (get c.self.inside.slots) (get c.reserve.new.self) c.self.inside.order c.reserve-2.new.self c.self.inside.dues c.reserve-3.new.self c.self.inside.index c.self.inside.index c.self.inside.names c.self.inside.names
    (slab_len c.self.inside.slots) (slab_len c.reserve.new.self) c.self.inside.slots.capacity c.reserve.new.self.capacity (ap get rest) (ap slab_len rest) c.reserve-2.ensures.items c.reserve-3.ensures.items (same_boxes c.self.inside.index) refl
    (λ some. let room = kept.room some in (room.0, omega (arith, room.1, ap slab_len rest, c.reserve.ensures.capacity), omega (arith, room.2, c.reserve-2.ensures.kept), rw (c.reserve-2.ensures.items, c.reserve-3.ensures.items) (omega (arith, room.3, c.reserve-3.ensures.kept)))) kept

pub invariant_of-self-in_err-prepare : goal.invariant_of-self-in_err-prepare
invariant_of-self-in_err-prepare c =
    let kept = c.self.invariant in
    let rest = c.reserve.ensures.rest_kept in
    kept_more (get c.self.inside.slots) (get c.reserve.new.self) c.self.inside.order c.reserve-2.new.self c.self.inside.dues c.reserve-3.new.self c.self.inside.index c.self.inside.index c.self.inside.names c.prepare.new.self
    (slab_len c.self.inside.slots) (slab_len c.reserve.new.self) c.self.inside.slots.capacity c.reserve.new.self.capacity (ap get rest) (ap slab_len rest) c.reserve-2.ensures.items c.reserve-3.ensures.items (same_boxes c.self.inside.index) c.prepare.ensures.slots
    (λ some. let room = kept.room some in (c.prepare.ensures.ready room.0, omega (arith, room.1, ap slab_len rest, c.reserve.ensures.capacity), omega (arith, room.2, c.reserve-2.ensures.kept), rw (c.reserve-2.ensures.items, c.reserve-3.ensures.items) (omega (arith, room.3, c.reserve-3.ensures.kept)))) kept

pub invariant_of-self-2 : goal.invariant_of-self-2
invariant_of-self-2 c =
    let kept = c.self.invariant in
    let rest = c.reserve.ensures.rest_kept in
    let long = ap length c.reserve-2.ensures.items in
    let long_dues = ap length c.reserve-3.ensures.items in
    kept_more (get c.self.inside.slots) (get c.reserve.new.self) c.self.inside.order c.reserve-2.new.self c.self.inside.dues c.reserve-3.new.self c.self.inside.index c.prepare-2.new.self c.self.inside.names c.prepare.new.self
    (slab_len c.self.inside.slots) (slab_len c.reserve.new.self) c.self.inside.slots.capacity c.reserve.new.self.capacity (ap get rest) (ap slab_len rest) c.reserve-2.ensures.items c.reserve-3.ensures.items c.prepare-2.ensures.boxes c.prepare.ensures.slots
    (λ some. (c.in_ok-prepare.ensures.ok, search rules, c.in_ok-reserve.ensures.room, omega (arith, c.in_ok-reserve-2.ensures.room, long, long_dues, c.len.ensures.count, c.len-2.ensures.count))) kept
