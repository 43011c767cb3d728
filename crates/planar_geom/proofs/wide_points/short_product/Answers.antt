use Rattle.std.proofs.Common.{◌≤◌, ◌*◌, arith, w64, to_z, of_z, lit<, ◌*ℤ◌, FitsSigned}
use Rattle.std.proofs.Math.Nat.{mul-le-mul}
use Rattle.std.specs.Prelude.{unsigned_abs}
use Rattle.std.proofs.lemmas.Int.{ints, to_z-of_z, fits_signed_mul, unsigned_abs-mul}
use Rattle.planar_geom.proofs.PointLemmas.{product_from}
use Rattle.planar_geom.proofs.wide_points.short_product.Goals as goal

pub returns-clause-value : goal.returns-clause-value
returns-clause-value c =
    let first = to_z w64 (of_z w64 c.args.a) in
    let second = to_z w64 (of_z w64 c.args.b) in
    let fits : FitsSigned w64 (first *ℤ second) = fits_signed_mul w64 first second 2000000000 2000000000 (omega (arith, ints)) (omega (arith, ints)) (lit< tt) in
    product_from (to_z w64 (of_z w64 (first *ℤ second))) first second c.args.a c.args.b (to_z-of_z w64 (first *ℤ second) fits) (to_z-of_z w64 c.args.a c.ranges.a) (to_z-of_z w64 c.args.b c.ranges.b)

pub returns-clause-above : goal.returns-clause-above
returns-clause-above c =
    let a_size : unsigned_abs c.args.a ≤ 2000000000 = omega (arith, ints) in
    let b_size : unsigned_abs c.args.b ≤ 2000000000 = omega (arith, ints) in
    let size : unsigned_abs c.args.a * unsigned_abs c.args.b ≤ 2000000000 * 2000000000 = mul-le-mul a_size b_size in
    rw (returns-clause-value c) (omega (arith, ints, unsigned_abs-mul c.args.a c.args.b))

pub returns-clause-below : goal.returns-clause-below
returns-clause-below c =
    let a_size : unsigned_abs c.args.a ≤ 2000000000 = omega (arith, ints) in
    let b_size : unsigned_abs c.args.b ≤ 2000000000 = omega (arith, ints) in
    let size : unsigned_abs c.args.a * unsigned_abs c.args.b ≤ 2000000000 * 2000000000 = mul-le-mul a_size b_size in
    rw (returns-clause-value c) (omega (arith, ints, unsigned_abs-mul c.args.a c.args.b))
