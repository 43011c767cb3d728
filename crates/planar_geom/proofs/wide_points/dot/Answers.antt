use Rattle.std.proofs.Common.{◌≡◌, ◌∙◌, refl, arith, w64, to_z, of_z, ◌+ℤ◌, ◌*ℤ◌}
use Rattle.std.proofs.lemmas.Int.{ints}
use Rattle.planar_geom.proofs.PointLemmas.{product_from}
use Rattle.planar_geom.proofs.wide_points.dot.Goals as goal

pub returns : goal.returns
returns c =
    let first : c.short_product.result ≡ c.d.inside.x *ℤ c.e.inside.x = product_from c.short_product.result (to_z w64 (of_z w64 c.d.inside.x)) (to_z w64 (of_z w64 c.e.inside.x)) c.d.inside.x c.e.inside.x c.short_product.ensures.value (omega (arith, ints)) (omega (arith, ints)) in
    let second : c.short_product-2.result ≡ c.d.inside.y *ℤ c.e.inside.y = product_from c.short_product-2.result (to_z w64 (of_z w64 c.d.inside.y)) (to_z w64 (of_z w64 c.e.inside.y)) c.d.inside.y c.e.inside.y c.short_product-2.ensures.value (omega (arith, ints)) (omega (arith, ints)) in
    let both : to_z w64 (of_z w64 (to_z w64 (of_z w64 c.short_product.result) +ℤ to_z w64 (of_z w64 c.short_product-2.result))) ≡ c.short_product.result +ℤ c.short_product-2.result = omega (arith, ints) in
    rw (← c.d.view_is, ← c.e.view_is) (both ∙ rw (first, second) refl)
