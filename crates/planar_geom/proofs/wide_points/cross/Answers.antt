use Rattle.std.proofs.Common.{◌≡◌, ◌∙◌, refl, arith, w64, to_z, of_z, ◌-ℤ◌, ◌*ℤ◌}
use mir.Syntax.{w128}
use Rattle.std.proofs.lemmas.Int.{ints}
use Rattle.planar_geom.proofs.PointLemmas.{product_from}
use Rattle.planar_geom.proofs.wide_points.cross.Goals as goal

pub product-requires-2 : goal.product-requires-2
product-requires-2 c = record {
  a_above = omega (arith, ints);
  a_below = omega (arith, ints);
  b_above = omega (arith, ints);
  b_below = omega (arith, ints);
}

pub overflow_sub-result : goal.overflow_sub-result
overflow_sub-result c = omega (arith, ints)

pub returns-clause-value : goal.returns-clause-value
returns-clause-value c =
    let east = (to_z w64 (of_z w64 (to_z w64 (of_z w64 c.b.inside.x) -ℤ to_z w64 (of_z w64 c.a.inside.x)))) in
    let up = (to_z w64 (of_z w64 (to_z w64 (of_z w64 c.c.inside.y) -ℤ to_z w64 (of_z w64 c.a.inside.y)))) in
    let north = (to_z w64 (of_z w64 (to_z w64 (of_z w64 c.b.inside.y) -ℤ to_z w64 (of_z w64 c.a.inside.y)))) in
    let along = (to_z w64 (of_z w64 (to_z w64 (of_z w64 c.c.inside.x) -ℤ to_z w64 (of_z w64 c.a.inside.x)))) in
    let first : c.product.result ≡ (c.b.inside.x -ℤ c.a.inside.x) *ℤ (c.c.inside.y -ℤ c.a.inside.y) = product_from c.product.result east up (c.b.inside.x -ℤ c.a.inside.x) (c.c.inside.y -ℤ c.a.inside.y) c.product.ensures.value (omega (arith, ints)) (omega (arith, ints)) in
    let second : c.product-2.result ≡ (c.b.inside.y -ℤ c.a.inside.y) *ℤ (c.c.inside.x -ℤ c.a.inside.x) = product_from c.product-2.result north along (c.b.inside.y -ℤ c.a.inside.y) (c.c.inside.x -ℤ c.a.inside.x) c.product-2.ensures.value (omega (arith, ints)) (omega (arith, ints)) in
    let both : to_z w128 (of_z w128 (to_z w128 (of_z w128 c.product.result) -ℤ to_z w128 (of_z w128 c.product-2.result))) ≡ c.product.result -ℤ c.product-2.result = omega (arith, ints) in
    rw (← c.a.view_is, ← c.b.view_is, ← c.c.view_is) (both ∙ rw (first, second) refl)

pub returns-clause-above : goal.returns-clause-above
returns-clause-above c = omega (arith, ints)

pub returns-clause-below : goal.returns-clause-below
returns-clause-below c = omega (arith, ints)
