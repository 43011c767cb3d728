use Rattle.std.proofs.Common.{◌≡◌, ◌+◌, ◌-◌, ◌≤◌, drop}
use Rattle.planar_geom.specs.Shapes.{positions}
use Rattle.planar_geom.proofs.counts.positions_within.Given as goal

-- what is counted, and what is left to count, make the whole
abbrev pub invariant-loop-part : goal.invariant-loop-part
invariant-loop-part l = (l.left ≤ l.fn.room) × (positions l.parts ≡ (l.fn.room - l.left) + positions (drop l.part-index l.parts))
