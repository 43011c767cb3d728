use Rattle.std.proofs.Common.{refl}
use Rattle.planar_geom.specs.Points.{in_box}
use Rattle.planar_geom.specs.Shapes.{all_vertices}
use Rattle.planar_geom.specs.Relations.{within, in_disc}
use Rattle.planar_geom.proofs.RelationLemmas.{not-any}
use Rattle.planar_geom.proofs.relations.within.Goals as goal

pub returns-in-Rect : goal.returns-in-Rect
unfolding within
returns-in-Rect c =
    rw (c.any_vertex_of.ensures, c.parts.ensures.value, c.in-Rect.is) (not-any (in_box c.in-Rect.b) (all_vertices c.args.shape.now))

pub returns-in-Disc : goal.returns-in-Disc
unfolding within
returns-in-Disc c =
    rw (c.any_vertex_of-in-Disc.ensures, c.parts-in-Disc.ensures.value, c.in-Disc.is, c.of.ensures.centre_is, c.of.ensures.radius_is) (not-any (in_disc c.in-Disc.centre c.in-Disc.radius) (all_vertices c.args.shape.now))

pub returns-in-Figure : goal.returns-in-Figure
unfolding within
returns-in-Figure c = rw (c.all_lie_in.ensures, c.parts-in-Figure.ensures.value, c.parts-in-Figure-2.ensures.value, c.in-Figure.is) refl
