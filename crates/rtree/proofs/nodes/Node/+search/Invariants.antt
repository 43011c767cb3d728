use Rattle.std.proofs.Common.{◌≡◌, ◌≤◌, ◌+◌, ◌++◌, take, length}
use Rattle.rtree.specs.Ledgers.{IsRead}
use Rattle.rtree.specs.Pairs.{ids_meeting}
use Rattle.rtree.specs.Slots.{all_entries}
use Rattle.rtree.proofs.nodes.Node.+search.Given as goal

abbrev pub decreases-search : goal.decreases-search
decreases-search g l = goal.size-search g l

-- what was met so far, read from the nodes visited so far and from this node's slots so far
abbrev pub invariant-loop-slot : goal.invariant-loop-slot
invariant-loop-slot g l =
    (l.into ≡ l.initial.into ++ ids_meeting l.b (all_entries (take l.slot-index l.slot-items)))
    × (l.initial.steps.count ≤ l.steps.count)
    × IsRead (length l.initial.into + l.slot-index) (length l.into) l.initial.steps.count l.steps.count
