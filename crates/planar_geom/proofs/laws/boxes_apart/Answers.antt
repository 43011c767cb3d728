use Rattle.planar_geom.proofs.WithinLaws.{boxes_apart as are_apart}
use Rattle.planar_geom.proofs.laws.boxes_apart.Goals as goal

pub returns : goal.returns
returns c = are_apart c.args._shape.now c.args._other.now
