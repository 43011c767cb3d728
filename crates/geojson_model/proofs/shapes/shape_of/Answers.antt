use Rattle.std.proofs.Common.{[], ◌∷◌}
use Rattle.planar_geom.specs.declared.shapes.Part.TheVariants.{Spot, Face}
use Rattle.geo_text.specs.Texts.{corners}
use Rattle.geojson_model.proofs.StoredTexts.{point_stored, bounds_stored, none_stored, is_there}
use Rattle.geojson_model.proofs.Reading.{answers_stored, answers_walked}
use Rattle.geojson_model.proofs.shapes.shape_of.Goals as goal

pub returns-in-Some : goal.returns-in-Some
returns-in-Some c = answers_stored c.args.text.now (Spot c.in-Some.p ∷ []) c.given.result (point_stored c.args.text.now c.in-Some.p c.in-Some.ensures.found.0 c.in-Some.ensures.found.1) (c.given.ensures (Spot c.in-Some.p ∷ []) c.point.ensures)

pub returns-in-Some-stored_bounds : goal.returns-in-Some-stored_bounds
returns-in-Some-stored_bounds c = answers_stored c.args.text.now (Face (corners c.in-Some-stored_bounds.b ∷ []) ∷ []) c.given-in-Some-stored_bounds.result (bounds_stored c.args.text.now c.in-Some-stored_bounds.b c.in-Some-stored_bounds.ensures.found.0 c.in-Some-stored_bounds.ensures.found.1) (c.given-in-Some-stored_bounds.ensures (Face (corners c.in-Some-stored_bounds.b ∷ []) ∷ []) c.rect.ensures)

pub returns : goal.returns
returns c =
    answers_walked c.args.text.now c.walked.result
    (none_stored c.args.text.now (λ p inside is. is_there (c.in_default.ensures.only p inside is)) (λ b inside is. is_there (c.in_default-stored_bounds.ensures.only b inside is)))
    c.walked.ensures
