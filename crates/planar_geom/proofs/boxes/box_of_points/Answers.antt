use Rattle.std.proofs.Common.{◌∙◌}
use Rattle.planar_geom.proofs.PointLemmas.{grown-box}
use Rattle.planar_geom.proofs.boxes.box_of_points.Goals as goal

pub returns : goal.returns
returns c = c.unwrap_or.ensures ∙ rw (c.with_points.ensures, c.origin.ensures) (grown-box c.args.points.now)
