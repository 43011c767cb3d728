use Rattle.std.proofs.Common.{refl}
use Rattle.planar_geom.specs.Relations.{intersects}
use Rattle.planar_geom.proofs.laws.box_is_its_face.Goals as goal

pub returns : goal.returns
unfolding intersects
returns c = refl
