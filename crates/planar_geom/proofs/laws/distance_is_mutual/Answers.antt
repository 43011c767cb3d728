use Rattle.planar_geom.proofs.AreaLaws.{dist2-swap}
use Rattle.planar_geom.proofs.laws.distance_is_mutual.Goals as goal

pub returns : goal.returns
returns c = dist2-swap c.args._p c.args._q
