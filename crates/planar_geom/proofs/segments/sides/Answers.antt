use Rattle.std.proofs.Common.{◌≡◌, ◌∙◌, arith, to_z, of_z, lit<, ◌*ℤ◌}
use Rattle.std.proofs.lemmas.Int.{ints, to_z-of_z, fits_signed_mul}
use mir.Syntax.{w8}
use Rattle.planar_geom.specs.Figures.{orient}
use Rattle.planar_geom.proofs.PointLemmas.{product_from}
use Rattle.planar_geom.proofs.segments.sides.Goals as goal

pub overflow_mul-result : goal.overflow_mul-result
overflow_mul-result c =
    fits_signed_mul w8 (to_z w8 (of_z w8 c.orient.result)) (to_z w8 (of_z w8 c.orient-2.result)) 1 1 (omega (arith, ints)) (omega (arith, ints)) (lit< tt)

pub returns : goal.returns
returns c =
    let first = to_z w8 (of_z w8 c.orient.result) in
    let second = to_z w8 (of_z w8 c.orient-2.result) in
    let fits = overflow_mul-result c in
    let cast : to_z w8 (of_z w8 (first *ℤ second)) ≡ first *ℤ second = to_z-of_z w8 (first *ℤ second) fits in
    let first_is : first ≡ orient c.s.inside.a c.s.inside.b c.t.inside.a = to_z-of_z w8 c.orient.result (record { sfits = c.orient.type_inv }) ∙ c.orient.ensures.value in
    let second_is : second ≡ orient c.s.inside.a c.s.inside.b c.t.inside.b = to_z-of_z w8 c.orient-2.result (record { sfits = c.orient-2.type_inv }) ∙ c.orient-2.ensures.value in
    rw (← c.s.view_is, ← c.t.view_is) (product_from _ first second _ _ cast first_is second_is)
