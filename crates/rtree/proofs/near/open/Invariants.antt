use Rattle.std.proofs.Common.{◌≡◌, ◌+◌, ◌++◌, take}
use Rattle.std.specs.BinaryHeap.{heap_items}
use Rattle.std.specs.List.Sorted.{IsPermutation}
use Rattle.rtree.specs.Slots.{all_entries, all_nodes}
use Rattle.rtree.specs.Near.{pairs_of, nodes_in, IsQueue}
use Rattle.rtree.proofs.near.open.Given as goal

abbrev pub invariant-loop-slot : goal.invariant-loop-slot
invariant-loop-slot l = record {
  queue : IsQueue l.from (heap_items l.waiting);
  pairs : IsPermutation (all_entries (take l.slot-index l.slot-items) ++ pairs_of (heap_items l.initial.waiting)) (pairs_of (heap_items l.waiting));
  nodes : nodes_in (heap_items l.waiting) ≡ nodes_in (heap_items l.initial.waiting) + all_nodes (take l.slot-index l.slot-items);
}
