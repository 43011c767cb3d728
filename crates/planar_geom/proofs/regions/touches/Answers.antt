use Rattle.std.proofs.Common.{sym}
use Rattle.planar_geom.specs.Shapes.{vertices, box_of_points}
use Rattle.planar_geom.proofs.TouchLaws.{apart-touch, boxes-apart}
use Rattle.planar_geom.proofs.regions.touches.Goals as goal

pub returns-then-not-meets : goal.returns-then-not-meets
returns-then-not-meets g c =
    let a = g.A.Region.part c.args.a.now in
    let b = g.B.Region.part c.args.b.now in
    sym (apart-touch a b c.bounds.ensures.is_part c.bounds-2.ensures.is_part (boxes-apart (box_of_points (vertices a)) (box_of_points (vertices b)) c.bounds.result c.bounds-2.result c.meets.result c.bounds.ensures.value c.bounds-2.ensures.value c.meets.ensures.value c.if-not-meets.true))
