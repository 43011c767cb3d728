use Rattle.std.proofs.Common.{arith}
use Rattle.planar_geom.specs.Points.{IsFloorRoot}
use Rattle.planar_geom.proofs.RootLemmas.{root_from, one_floor_root}
use Rattle.planar_geom.proofs.distances.floor_root.Goals as goal

pub returns : goal.returns
returns c =
    let root : IsFloorRoot c.args.n c.isqrt.result = root_from c.args.n c.isqrt.result c.isqrt.ensures.square_le c.isqrt.ensures.next_square_gt in
    record { root = root; value = (one_floor_root c.args.n c.isqrt.result (omega arith)).0 root }
