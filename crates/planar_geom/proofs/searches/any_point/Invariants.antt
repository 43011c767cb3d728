use Rattle.std.proofs.Common.{◌≡◌, drop}
use Rattle.std.specs.List.{list_any}
use Rattle.planar_geom.proofs.searches.any_point.Given as goal

-- the points that are left decide
abbrev pub invariant-loop-p : goal.invariant-loop-p
invariant-loop-p g l = list_any (g.T.PointTest.passes l.test) (drop l.p-index l.points) ≡ list_any (g.T.PointTest.passes l.test) l.points
