use Rattle.std.proofs.Common.{◌∙◌}
use Rattle.ordered_lists.specs.Reading.{stands_at}
use Rattle.fence_index.proofs.KeyWeights.{key_there, key_order_set, key_order_insert, room_at, weights_put, weights_first}
use Rattle.fence_index.specs.Marks.{mark_of}
use Rattle.fence_index.proofs.key_lists.put_boxes.Goals as goal

pub put-requires : goal.put-requires
put-requires c =
    let xs = c.args.boxes.now.items in
    let held = rw c.as_slice.ensures.value at c.in-Ok.ensures.held in
    let is = stands_at xs c.in-Ok.at c.index_mut.result.now held.within c.index_mut.ensures.value in
    room_at (mark_of c.args.channel.now) xs c.in-Ok.at c.index_mut.result.now c.requires.room is (key_there c.args.channel.now.fence.key xs c.in-Ok.at c.index_mut.result.now held is)

pub returns-in-Ok-clause-by_key : goal.returns-in-Ok-clause-by_key
returns-in-Ok-clause-by_key c =
    let xs = c.args.boxes.now.items in
    let held = rw c.as_slice.ensures.value at c.in-Ok.ensures.held in
    let is = stands_at xs c.in-Ok.at c.index_mut.result.now held.within c.index_mut.ensures.value in
    let k = key_there c.args.channel.now.fence.key xs c.in-Ok.at c.index_mut.result.now held is in
    key_order_set c.args.channel.now.fence.key xs c.in-Ok.at c.put.new.self c.requires.by_key held (c.put.ensures.key ∙ k)

pub returns-in-Ok-clause-weights : goal.returns-in-Ok-clause-weights
returns-in-Ok-clause-weights c = λ r key w.
    let xs = c.args.boxes.now.items in
    let held = rw c.as_slice.ensures.value at c.in-Ok.ensures.held in
    let is = stands_at xs c.in-Ok.at c.index_mut.result.now held.within c.index_mut.ensures.value in
    let k = key_there c.args.channel.now.fence.key xs c.in-Ok.at c.index_mut.result.now held is in
    weights_put r key w (mark_of c.args.channel.now) c.args.number xs c.in-Ok.at c.index_mut.result.now c.put.new.self is k c.put.ensures.key (c.put.ensures.pairs r w)

pub returns-in-Err-clause-by_key : goal.returns-in-Err-clause-by_key
returns-in-Err-clause-by_key c =
    let xs = c.args.boxes.now.items in
    let free = rw c.as_slice.ensures.value at c.in-Err.ensures.free in
    rw c.insert_reserved.ensures.items (key_order_insert c.args.channel.now.fence.key xs c.in-Err.at c.put-in-Err.new.self c.requires.by_key free (c.put-in-Err.ensures.key ∙ c.requires.fresh.key))

pub returns-in-Err-clause-weights : goal.returns-in-Err-clause-weights
returns-in-Err-clause-weights c = λ r key w.
    let xs = c.args.boxes.now.items in
    rw c.insert_reserved.ensures.items
    (weights_first r key w (mark_of c.args.channel.now) c.args.number xs c.in-Err.at c.args.fresh c.put-in-Err.new.self c.requires.fresh c.put-in-Err.ensures.key (c.put-in-Err.ensures.pairs r w))

pub put-requires-in-Err : goal.put-requires-in-Err
put-requires-in-Err c = c.requires.fresh.room
