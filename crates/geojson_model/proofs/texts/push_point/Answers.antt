use Rattle.std.proofs.Common.{[], ◌∷◌}
use Rattle.planar_geom.specs.declared.shapes.Part.TheVariants.{Spot}
use Rattle.geo_text.specs.Texts.{point_text}
use Rattle.geojson_model.proofs.StoredTexts.{point_stored, point_text_is}
use Rattle.geojson_model.proofs.Reading.{stored_is}
use Rattle.geojson_model.proofs.texts.push_point.Goals as goal

pub returns-in-Ok-clause-accepted : goal.returns-in-Ok-clause-accepted
returns-in-Ok-clause-accepted c = stored_is (point_text c.args.p) (Spot c.args.p ∷ []) (point_stored (point_text c.args.p) c.args.p c.in-Ok.ensures.in_plane (point_text_is c.args.p))
