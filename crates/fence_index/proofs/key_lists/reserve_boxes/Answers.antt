use Rattle.std.proofs.Common.{◌≡◌, ◌∙◌, true, ap, subst, sym, List}
use Rattle.std.proofs.lemmas.Result.{on_ok_weaker}
use Rattle.ordered_lists.specs.Reading.{stands_at}
use Rattle.fence_index.specs.declared.key_boxes.KeyBoxes.{KeyBoxes}
use Rattle.fence_index.specs.Boxed.{HasRoomIn, are_by_key, weight_in}
use Rattle.fence_index.proofs.KeyWeights.{key_there, key_order_set, room_free, room_more, room_set, room_there, weights_same}
use Rattle.fence_index.specs.Marks.{mark_of}
use Rattle.fence_index.proofs.key_lists.reserve_boxes.Goals as goal

pub place_of_key-requires : goal.place_of_key-requires
place_of_key-requires c = rw (c.as_slice.ensures.value, c.reserve.ensures.items) c.requires

pub returns-in-Ok-clause-by_key : goal.returns-in-Ok-clause-by_key
returns-in-Ok-clause-by_key c =
    let key = c.args.channel.now.fence.key in
    let xs = c.reserve.new.self.items in
    let s = c.index_mut.result.now in
    let asc : are_by_key xs ≡ true = subst (λ (l : List KeyBoxes). are_by_key l ≡ true) (sym c.reserve.ensures.items) c.requires in
    let held = rw c.as_slice.ensures.value at c.in-Ok.ensures.held in
    let is = stands_at xs c.in-Ok.at s held.within c.index_mut.ensures.value in
    key_order_set key xs c.in-Ok.at c.reserve-in-Ok.new.self asc held (c.reserve-in-Ok.ensures.key ∙ key_there key xs c.in-Ok.at s held is)

pub returns-in-Ok-clause-weights : goal.returns-in-Ok-clause-weights
returns-in-Ok-clause-weights c = λ r key w.
    let xs = c.reserve.new.self.items in
    let s = c.index_mut.result.now in
    let held = rw c.as_slice.ensures.value at c.in-Ok.ensures.held in
    let is = stands_at xs c.in-Ok.at s held.within c.index_mut.ensures.value in
    weights_same r key w xs c.in-Ok.at s c.reserve-in-Ok.new.self is c.reserve-in-Ok.ensures.key (c.reserve-in-Ok.ensures.pairs r) ∙ ap (weight_in r key w) c.reserve.ensures.items

pub returns-in-Ok-clause-room : goal.returns-in-Ok-clause-room
returns-in-Ok-clause-room c =
    let xs = c.reserve.new.self.items in
    let asc : are_by_key xs ≡ true = subst (λ (l : List KeyBoxes). are_by_key l ≡ true) (sym c.reserve.ensures.items) c.requires in
    let held = rw c.as_slice.ensures.value at c.in-Ok.ensures.held in
    on_ok_weaker c.reserve-in-Ok.result (λ room. room_there (mark_of c.args.channel.now) xs c.in-Ok.at c.reserve-in-Ok.new.self asc held room) c.reserve-in-Ok.ensures.room

pub returns-in-Ok-clause-kept : goal.returns-in-Ok-clause-kept
returns-in-Ok-clause-kept c = λ m all.
    let xs = c.reserve.new.self.items in
    let s = c.index_mut.result.now in
    let t = c.reserve-in-Ok.new.self in
    let held = rw c.as_slice.ensures.value at c.in-Ok.ensures.held in
    let is = stands_at xs c.in-Ok.at s held.within c.index_mut.ensures.value in
    room_set m xs c.in-Ok.at s t is c.reserve-in-Ok.ensures.key (room_more m s t c.reserve-in-Ok.ensures.kept) (subst (HasRoomIn m) (sym c.reserve.ensures.items) all)

pub returns-in-Err-clause-room : goal.returns-in-Err-clause-room
returns-in-Err-clause-room c =
    let xs = c.reserve.new.self.items in
    let asc : are_by_key xs ≡ true = subst (λ (l : List KeyBoxes). are_by_key l ≡ true) (sym c.reserve.ensures.items) c.requires in
    let free = rw c.as_slice.ensures.value at c.in-Err.ensures.free in
    room_free (mark_of c.args.channel.now) xs c.in-Err.field-0 asc free
