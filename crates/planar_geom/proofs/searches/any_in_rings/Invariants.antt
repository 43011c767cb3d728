use Rattle.std.proofs.Common.{◌≡◌, drop}
use Rattle.std.specs.List.{list_any}
use Rattle.planar_geom.specs.Figures.{edges}
use Rattle.planar_geom.proofs.searches.any_in_rings.Given as goal

-- the rings that are left decide
abbrev pub invariant-loop-ring : goal.invariant-loop-ring
invariant-loop-ring g l = list_any (g.T.SegmentTest.passes l.test) (edges (drop l.ring-index l.rings)) ≡ list_any (g.T.SegmentTest.passes l.test) (edges l.rings)
