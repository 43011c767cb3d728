use Rattle.std.proofs.Common.{arith}
use Rattle.std.proofs.lemmas.Int.{ints}
use Rattle.planar_geom.proofs.PointLemmas.{pt_is}
use Rattle.planar_geom.proofs.wide_points.WidePoint.middle.Goals as goal

pub invariant_of-result : goal.invariant_of-result
invariant_of-result c = record {
  left = omega (arith, ints);
  right = omega (arith, ints);
  bottom = omega (arith, ints);
  top = omega (arith, ints);
}

pub returns : goal.returns
returns c = rw (← c.s.view_is) (pt_is _ _ _ _ (omega (arith, ints)) (omega (arith, ints)))
