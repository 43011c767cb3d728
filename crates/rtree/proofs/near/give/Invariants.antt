use Rattle.std.proofs.Common.{◌+◌, length}
use Rattle.std.specs.BinaryHeap.{heap_items}
use Rattle.rtree.specs.Near.{pairs_of, nodes_in, IsQueue}
use Rattle.rtree.proofs.Nears.{IsFound}
use Rattle.rtree.proofs.near.give.Given as goal

abbrev pub invariant-loop-nearest : goal.invariant-loop-nearest
invariant-loop-nearest g l = record {
  queue : IsQueue l.from (heap_items l.waiting);
  found : IsFound l.found l.from (pairs_of (heap_items l.initial.waiting)) (pairs_of (heap_items l.waiting)) l.initial.into l.into;
}

abbrev pub decreases-loop-nearest : goal.decreases-loop-nearest
decreases-loop-nearest g l = length (pairs_of (heap_items l.waiting)) + nodes_in (heap_items l.waiting)
