use Rattle.geo_text.specs.Texts.{position_text}
use Rattle.geojson_model.specs.Stored.{point_head}
use Rattle.geojson_model.proofs.Reading.{three_pieces}
use Rattle.std.proofs.Common.{[], ◌∷◌}
use Rattle.geojson_model.proofs.texts.push_point_text.Goals as goal

pub returns-clause-ok : goal.returns-clause-ok
returns-clause-ok c = three_pieces c.push-2.result c.args.into.now point_head (position_text c.args.p) (125 ∷ []) c.push.new.self c.push_position.new.into c.push-2.new.self c.in_ok-push.ensures.ok c.in_ok-push_position.ensures.ok c.push-2.ensures.ok
