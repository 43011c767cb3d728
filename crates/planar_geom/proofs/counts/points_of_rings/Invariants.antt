use Rattle.std.proofs.Common.{◌≡◌, length, ◌+◌, ◌-◌, ◌≤◌, drop}
use Rattle.planar_geom.specs.Figures.{ring_points}
use Rattle.planar_geom.proofs.counts.points_of_rings.Given as goal

-- what is counted, and what is left to count, make the whole
abbrev pub invariant-loop-ring : goal.invariant-loop-ring
invariant-loop-ring l = (l.left ≤ l.fn.room) × (length (ring_points l.rings) ≡ (l.fn.room - l.left) + length (ring_points (drop l.ring-index l.rings)))
