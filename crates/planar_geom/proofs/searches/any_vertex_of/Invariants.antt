use Rattle.std.proofs.Common.{◌≡◌, drop}
use Rattle.std.specs.List.{list_any}
use Rattle.planar_geom.specs.Shapes.{all_vertices}
use Rattle.planar_geom.proofs.searches.any_vertex_of.Given as goal

-- the parts that are left decide
abbrev pub invariant-loop-part : goal.invariant-loop-part
invariant-loop-part g l = list_any (g.T.PointTest.passes l.test) (all_vertices (drop l.part-index l.parts)) ≡ list_any (g.T.PointTest.passes l.test) (all_vertices l.parts)
