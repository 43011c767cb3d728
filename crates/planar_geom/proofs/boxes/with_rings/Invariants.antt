use Rattle.std.proofs.Common.{◌≡◌, drop}
use Rattle.std.specs.Prelude.{fold}
use Rattle.planar_geom.specs.Points.{grown}
use Rattle.planar_geom.specs.Figures.{ring_points}
use Rattle.planar_geom.proofs.boxes.with_rings.Given as goal

-- what is left to do makes the whole
abbrev pub invariant-loop-ring : goal.invariant-loop-ring
invariant-loop-ring l = fold grown l.all (ring_points (drop l.ring-index l.rings)) ≡ fold grown l.fn.found (ring_points l.rings)
