use Rattle.std.proofs.Common.{All, take}
use Rattle.rtree.specs.Pairs.{IsInside}
use Rattle.rtree.specs.Slots.{all_entries}
use Rattle.rtree.proofs.nodes.Node.summary.Given as goal

abbrev pub invariant-loop-slot : goal.invariant-loop-slot
invariant-loop-slot g l = All (λ p. IsInside l.bounds p.bounds) (all_entries (take l.slot-index l.slot-items))
