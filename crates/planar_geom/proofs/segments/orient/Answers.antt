use Rattle.std.proofs.Common.{◌≡◌, ◌∙◌, arith, ap, refl, to_z, of_z}
use Rattle.std.specs.Int.{int_signum}
use Rattle.std.proofs.lemmas.Int.{ints}
use mir.Syntax.{w8, w128}
use Rattle.planar_geom.specs.Figures.{cross}
use Rattle.planar_geom.proofs.segments.orient.Goals as goal

pub returns-clause-value : goal.returns-clause-value
returns-clause-value c =
    let cast : to_z w8 (of_z w8 (to_z w128 (of_z w128 c.signum.result))) ≡ c.signum.result = omega (arith, ints) in
    let passed : to_z w128 (of_z w128 c.cross.result) ≡ c.cross.result = omega (arith, ints) in
    let places : c.cross.result ≡ cross c.args.a c.args.b c.args.c = c.cross.ensures.value ∙ rw (c.of.ensures, c.of-2.ensures, c.of-3.ensures) refl in
    cast ∙ c.signum.ensures.value ∙ ap int_signum passed ∙ ap int_signum places

pub returns-clause-least : goal.returns-clause-least
returns-clause-least c = omega (arith, ints)
