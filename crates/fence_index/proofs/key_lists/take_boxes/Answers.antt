use Rattle.std.proofs.Common.{◌<◌, ◌∙◌, ℕ, List, length, sym, subst, arith}
use Rattle.std.specs.List.{slice_set}
use Rattle.std.proofs.lemmas.List.{length-set}
use Rattle.ordered_lists.specs.Reading.{stands_at}
use Rattle.fence_index.specs.declared.key_boxes.KeyBoxes.{KeyBoxes}
use Rattle.fence_index.specs.Boxed.{HasRoomIn}
use Rattle.fence_index.proofs.KeyWeights.{key_there, key_order_remove, key_order_set, own_weight, room_more, room_removed, room_set, weight_held, weightless, weights_empty, weights_taken}
use Rattle.fence_index.specs.Marks.{mark_of}
use Rattle.fence_index.proofs.key_lists.take_boxes.Goals as goal

pub take-requires : goal.take-requires
take-requires c = λ r w.
    let xs = c.args.boxes.now.items in
    let m = mark_of c.args.channel.now in
    let s = c.index_mut.result.now in
    let held = rw c.as_slice.ensures.value at c.in-Ok.ensures.held in
    let is = stands_at xs c.in-Ok.at s held.within c.index_mut.ensures.value in
    let a = own_weight r w m c.args.number in
    let b = weight_held r m.key w xs c.in-Ok.at s c.requires.by_key held is in
    let le = c.requires.there r w in
    omega (arith, a, b, le)

pub returns-then-is_empty-clause-by_key : goal.returns-then-is_empty-clause-by_key
returns-then-is_empty-clause-by_key c =
    let xs = c.args.boxes.now.items in
    let key = c.args.channel.now.fence.key in
    let s = c.index_mut.result.now in
    let t = c.take.new.self in
    let held = rw c.as_slice.ensures.value at c.in-Ok.ensures.held in
    let is = stands_at xs c.in-Ok.at s held.within c.index_mut.ensures.value in
    rw c.remove.ensures.items (key_order_remove (slice_set xs c.in-Ok.at t) c.in-Ok.at (key_order_set key xs c.in-Ok.at t c.requires.by_key held (c.take.ensures.key ∙ key_there key xs c.in-Ok.at s held is)))

pub returns-then-is_empty-clause-weights : goal.returns-then-is_empty-clause-weights
returns-then-is_empty-clause-weights c = λ r key w.
    let xs = c.args.boxes.now.items in
    let m = mark_of c.args.channel.now in
    let at = c.in-Ok.at in
    let s = c.index_mut.result.now in
    let t = c.take.new.self in
    let u = c.index.result.now in
    let held = rw c.as_slice.ensures.value at c.in-Ok.ensures.held in
    let is = stands_at xs at s held.within c.index_mut.ensures.value in
    let within : at < length (slice_set xs at t) = subst (λ (n : ℕ). at < n) (sym (length-set xs at t)) held.within in
    let got = stands_at (slice_set xs at t) at u within c.index.ensures in
    let a = weights_taken r key w m c.args.number xs at s t is (key_there m.key xs at s held is) c.take.ensures.key (c.take.ensures.pairs r w) in
    let b = weights_empty r key w (slice_set xs at t) at u got (c.is_empty.ensures.none c.if-is_empty.true r) in
    rw c.remove.ensures.items (omega (arith, a, b))

pub returns-then-is_empty-clause-kept : goal.returns-then-is_empty-clause-kept
returns-then-is_empty-clause-kept c = λ m all.
    let xs = c.args.boxes.now.items in
    let s = c.index_mut.result.now in
    let t = c.take.new.self in
    let held = rw c.as_slice.ensures.value at c.in-Ok.ensures.held in
    let is = stands_at xs c.in-Ok.at s held.within c.index_mut.ensures.value in
    subst (λ (l : List KeyBoxes). HasRoomIn m l) (sym c.remove.ensures.items)
    (room_removed m (slice_set xs c.in-Ok.at t) c.in-Ok.at (room_set m xs c.in-Ok.at s t is c.take.ensures.key (room_more m s t c.take.ensures.kept) all))

pub returns-else-is_empty-clause-by_key : goal.returns-else-is_empty-clause-by_key
returns-else-is_empty-clause-by_key c =
    let xs = c.args.boxes.now.items in
    let key = c.args.channel.now.fence.key in
    let s = c.index_mut.result.now in
    let held = rw c.as_slice.ensures.value at c.in-Ok.ensures.held in
    let is = stands_at xs c.in-Ok.at s held.within c.index_mut.ensures.value in
    key_order_set key xs c.in-Ok.at c.take.new.self c.requires.by_key held (c.take.ensures.key ∙ key_there key xs c.in-Ok.at s held is)

pub returns-else-is_empty-clause-weights : goal.returns-else-is_empty-clause-weights
returns-else-is_empty-clause-weights c = λ r key w.
    let xs = c.args.boxes.now.items in
    let m = mark_of c.args.channel.now in
    let s = c.index_mut.result.now in
    let held = rw c.as_slice.ensures.value at c.in-Ok.ensures.held in
    let is = stands_at xs c.in-Ok.at s held.within c.index_mut.ensures.value in
    sym (weights_taken r key w m c.args.number xs c.in-Ok.at s c.take.new.self is (key_there m.key xs c.in-Ok.at s held is) c.take.ensures.key (c.take.ensures.pairs r w))

pub returns-else-is_empty-clause-kept : goal.returns-else-is_empty-clause-kept
returns-else-is_empty-clause-kept c = λ m all.
    let xs = c.args.boxes.now.items in
    let s = c.index_mut.result.now in
    let t = c.take.new.self in
    let held = rw c.as_slice.ensures.value at c.in-Ok.ensures.held in
    let is = stands_at xs c.in-Ok.at s held.within c.index_mut.ensures.value in
    room_set m xs c.in-Ok.at s t is c.take.ensures.key (room_more m s t c.take.ensures.kept) all

pub returns-in_default-clause-weights : goal.returns-in_default-clause-weights
returns-in_default-clause-weights c = λ r key w.
    let xs = c.args.boxes.now.items in
    let m = mark_of c.args.channel.now in
    let free = rw c.as_slice.ensures.value at c.in_default.ensures.free in
    let none = weightless r key w m c.args.number xs c.in_default.field-0 c.requires.by_key free (c.requires.there r w) in
    omega (arith, none)
