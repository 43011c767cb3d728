use Rattle.std.proofs.Common.{◌≡◌, ◌∙◌, refl, arith, w64, to_z, of_z, ◌-ℤ◌, ◌*ℤ◌}
use Rattle.std.proofs.lemmas.Int.{ints}
use Rattle.planar_geom.proofs.PointLemmas.{product_from}
use Rattle.planar_geom.proofs.wide_points.turn.Goals as goal

pub overflow_sub-result : goal.overflow_sub-result
overflow_sub-result c = omega (arith, ints)

pub returns : goal.returns
returns c =
    let first : c.short_product.result ≡ c.e.inside.x *ℤ c.d.inside.y = product_from c.short_product.result (to_z w64 (of_z w64 c.e.inside.x)) (to_z w64 (of_z w64 c.d.inside.y)) c.e.inside.x c.d.inside.y c.short_product.ensures.value (omega (arith, ints)) (omega (arith, ints)) in
    let second : c.short_product-2.result ≡ c.e.inside.y *ℤ c.d.inside.x = product_from c.short_product-2.result (to_z w64 (of_z w64 c.e.inside.y)) (to_z w64 (of_z w64 c.d.inside.x)) c.e.inside.y c.d.inside.x c.short_product-2.ensures.value (omega (arith, ints)) (omega (arith, ints)) in
    let both : to_z w64 (of_z w64 (to_z w64 (of_z w64 c.short_product.result) -ℤ to_z w64 (of_z w64 c.short_product-2.result))) ≡ c.short_product.result -ℤ c.short_product-2.result = omega (arith, ints) in
    rw (← c.d.view_is, ← c.e.view_is) (both ∙ rw (first, second) refl)
