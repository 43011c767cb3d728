use Rattle.std.proofs.Common.{refl}
use Rattle.geojson_model.specs.Stored.{ended}
use Rattle.geojson_model.proofs.StoredTexts.{made_from, x_fits, y_fits}
use Rattle.geojson_model.proofs.stored.position.Goals as goal

pub returns-in-Some-of-clause-only : goal.returns-in-Some-of-clause-only
returns-in-Some-of-clause-only c = λ p rest inside is.
    let opens = c.in-Some.ensures.only (ended p.x 44 (ended p.y 93 rest)) is in
    let x = c.in-Some-number_until.ensures.only p.x (ended p.y 93 rest) (x_fits p inside) opens.1 in
    let y = c.in-Some-number_until-2.ensures.only p.y rest (y_fits p inside) x.0.1 in
    (refl, (made_from c.in-Some-of.p p c.in-Some-number_until.x c.in-Some-number_until-2.y inside x.0.0 y.0.0 c.in-Some-of.ensures, y.0.1))
