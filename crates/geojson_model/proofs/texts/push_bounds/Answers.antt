use Rattle.std.proofs.Common.{[], ◌∷◌}
use Rattle.planar_geom.specs.declared.shapes.Part.TheVariants.{Face}
use Rattle.geo_text.specs.Texts.{bounds_text, corners}
use Rattle.geojson_model.proofs.StoredTexts.{bounds_stored, bounds_text_is}
use Rattle.geojson_model.proofs.Reading.{stored_is}
use Rattle.geojson_model.proofs.texts.push_bounds.Goals as goal

pub returns-in-Ok-clause-accepted : goal.returns-in-Ok-clause-accepted
returns-in-Ok-clause-accepted c = stored_is (bounds_text c.args.b) (Face (corners c.args.b ∷ []) ∷ []) (bounds_stored (bounds_text c.args.b) c.args.b c.in-Ok.ensures.is_box (bounds_text_is c.args.b))
