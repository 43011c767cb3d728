use Rattle.planar_geom.proofs.AreaLaws.{near-meets, centre-meets}
use Rattle.planar_geom.proofs.laws.near_boxes_meet.Goals as goal

pub returns : goal.returns
returns c = record {
  box_near = near-meets c.args.b c.args._p c.args._radius c.min-low.ensures.is_box;
  centre_near = centre-meets c.args.b c.args._p c.args._radius c.min-low.ensures.is_box;
}
