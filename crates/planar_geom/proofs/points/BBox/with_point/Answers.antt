use Rattle.std.proofs.Common.{arith}
use Rattle.std.proofs.lemmas.Int.{ints, clamps, to_z-of_z}
use Rattle.planar_geom.proofs.PointLemmas.{bounds_are}
use Rattle.planar_geom.proofs.points.BBox.with_point.Goals as goal

pub invariant_of-result : goal.invariant_of-result
invariant_of-result c = record {
  x_in = record { low = omega (arith, ints, clamps); high = omega (arith, ints, clamps) };
  y_in = record { low = omega (arith, ints, clamps); high = omega (arith, ints, clamps) };
}

pub invariant_of-result-2 : goal.invariant_of-result-2
invariant_of-result-2 c = record {
  x_in = record { low = omega (arith, ints, clamps); high = omega (arith, ints, clamps) };
  y_in = record { low = omega (arith, ints, clamps); high = omega (arith, ints, clamps) };
}

pub invariant_of-result-3 : goal.invariant_of-result-3
invariant_of-result-3 c = record {
  min_in_plane = invariant_of-result c;
  max_in_plane = invariant_of-result-2 c;
  x_ordered = omega (arith, ints, clamps);
  y_ordered = omega (arith, ints, clamps);
}

pub returns : goal.returns
returns c =
    rw (← c.self.view_is, ← c.p.view_is) (bounds_are _ _ _ _ _ _ _ _ (grind (arith, to_z-of_z)) (grind (arith, to_z-of_z)) (grind (arith, to_z-of_z)) (grind (arith, to_z-of_z)))
