use Rattle.std.proofs.Common.{rules, ◌≡◌, [], ◌∷◌, ◌++◌, map}
use Rattle.geo_text.specs.Texts.{position_text, with_commas, corners}
use Rattle.geojson_model.specs.Stored.{bounds_head}
use Rattle.geojson_model.proofs.Reading.{three_pieces}
use Rattle.geojson_model.proofs.texts.push_bounds_text.Goals as goal

pub returns-clause-ok : goal.returns-clause-ok
returns-clause-ok c =
    let ring : c.push_corners.new.into ≡ c.push.new.self ++ with_commas (map position_text (corners c.args.b)) = search rules in
    three_pieces c.push-2.result c.args.into.now bounds_head (with_commas (map position_text (corners c.args.b))) (93 ∷ 93 ∷ 125 ∷ []) c.push.new.self c.push_corners.new.into c.push-2.new.self c.in_ok-push.ensures.ok ring c.push-2.ensures.ok
