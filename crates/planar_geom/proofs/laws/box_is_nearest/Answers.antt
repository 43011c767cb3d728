use Rattle.planar_geom.proofs.DistanceLaws.{box_dist2-le, box_dist2-inside, inside-box_dist2}
use Rattle.planar_geom.proofs.laws.box_is_nearest.Goals as goal

pub returns : goal.returns
returns c = record {
  inside = (inside-box_dist2 c.args._p c.args._b, box_dist2-inside c.args._p c.args._b);
  nearest = box_dist2-le c.args._p c.args._b c.args._q;
}
