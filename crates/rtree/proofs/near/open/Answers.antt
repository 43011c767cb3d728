use Rattle.std.proofs.Common.{◌≡◌, ◌∷◌, ◌++◌, subst, sym, ap, ◌∙◌, take, arith}
use Rattle.std.specs.BinaryHeap.{heap_items, IsHeap}
use Rattle.std.specs.List.Sorted.{IsPermutation}
use Rattle.std.proofs.lemmas.List.{take_all}
use Rattle.std.proofs.lemmas.List.Sorted.{IsPermutation-refl}
use Rattle.rtree.specs.Slots.{all_entries, all_nodes}
use Rattle.rtree.specs.Near.{nearest_first, pairs_of}
use Rattle.rtree.proofs.Nears.{kept_promise, queue_more, opened_more, nodes_more, nodes_pushed}
use Rattle.rtree.proofs.near.open.Goals as goal

pub loop-slot-init : goal.loop-slot-init
loop-slot-init c = record {
  queue = c.requires.queue;
  pairs = IsPermutation-refl _;
  nodes = omega arith;
}

pub loop-slot-preserved : goal.loop-slot-preserved
loop-slot-preserved c =
    let items = c.slots-slot-items.result.now in
    let i = c.loop-slot.slot-index in
    let s = c.slot-item.result in
    let w = c.met.result in
    let old = heap_items c.loop-slot.waiting in
    let new = heap_items c.push.new.self in
    let ok = c.if-is_err.ensures.negation in
    let more : IsPermutation (w ∷ old) new = kept_promise c.push.result (IsPermutation (w ∷ old) new) ok c.push.ensures.permutation in
    let keeps : IsHeap nearest_first old → IsHeap nearest_first new = kept_promise c.push.result (IsHeap nearest_first old → IsHeap nearest_first new) ok c.push.ensures.heap_order in record {
      queue = queue_more c.args.from w old new c.loop-slot.invariant.queue c.met.ensures.near more keeps;
      pairs = opened_more items i s w (pairs_of (heap_items c.args.waiting.now)) old new c.loop-slot-test.true c.slot-item.is c.met.ensures.pairs more c.loop-slot.invariant.pairs;
      nodes = omega (arith, nodes_pushed w old new more, nodes_more items i s c.loop-slot-test.true c.slot-item.is, c.met.ensures.nodes, c.loop-slot.invariant.nodes);
    }

pub returns-clause-queue : goal.returns-clause-queue
returns-clause-queue c = c.loop-slot.invariant.queue

pub returns-clause-pairs : goal.returns-clause-pairs
returns-clause-pairs c =
    let items = c.slots-slot-items.result.now in
    let start = pairs_of (heap_items c.args.waiting.now) in
    let whole : all_entries (take c.loop-slot.slot-index items) ≡ c.args.node.now.entries = ap all_entries (take_all c.loop-slot.slot-index items c.loop-slot-test.false) ∙ sym c.slots-slot-items.ensures.entries in
    subst (λ es. IsPermutation (es ++ start) (pairs_of (heap_items c.loop-slot.waiting))) whole c.loop-slot.invariant.pairs

pub returns-clause-nodes : goal.returns-clause-nodes
returns-clause-nodes c =
    let items = c.slots-slot-items.result.now in
    let e = take_all c.loop-slot.slot-index items c.loop-slot-test.false in
    omega (arith, c.loop-slot.invariant.nodes, ap all_nodes e, c.slots-slot-items.ensures.nodes)
