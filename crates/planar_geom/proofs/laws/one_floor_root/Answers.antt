use Rattle.planar_geom.proofs.RootLemmas.{one_floor_root as is_one}
use Rattle.planar_geom.proofs.laws.one_floor_root.Goals as goal

pub returns : goal.returns
returns c = λ n m small. is_one n m small
