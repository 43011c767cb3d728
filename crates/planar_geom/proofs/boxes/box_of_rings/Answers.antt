use Rattle.std.proofs.Common.{◌∙◌}
use Rattle.planar_geom.specs.Figures.{ring_points}
use Rattle.planar_geom.proofs.PointLemmas.{grown-box}
use Rattle.planar_geom.proofs.boxes.box_of_rings.Goals as goal

pub returns : goal.returns
returns c = c.unwrap_or.ensures ∙ rw (c.with_rings.ensures, c.origin.ensures) (grown-box (ring_points c.args.rings.now))
