use Rattle.planar_geom.proofs.SegmentLaws.{boxes_meet-swap}
use Rattle.planar_geom.proofs.laws.boxes_meet_in_any_order.Goals as goal

pub returns : goal.returns
returns c = boxes_meet-swap c.args._b c.args._c
