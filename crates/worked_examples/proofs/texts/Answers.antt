use Rattle.std.proofs.Common.{refl}
use Rattle.std.specs.Str.{chars, is_utf8}
use Rattle.std.specs.Fmt.{digits}
use Rattle.std.specs.Float.Numeral.{scan_numeral}
use Rattle.std.specs.Float.{float_is_finite}
use Rattle.json.specs.Json.{value, items, members}
use Rattle.json.specs.Lex.{lex, punctuate}
use Rattle.json.specs.Text.{code_unit, short_escape, content}
use Rattle.json.specs.Word.{after_number, word}
use Rattle.serde_json.specs.Read.{number_of}
use Rattle.geo_text.specs.Texts.{shape_of}
use Rattle.geo_text.specs.Walks.{point, position, each, positions_of, line, ring, polygon}
use Rattle.geo_text.specs.Geometries.{part, single, many, coordinates, single_at, many_at, geometry, inner, walk_of, geometries, feature, only_feature, feature_item, parts_of_each, features, shape}
use Rattle.worked_examples.proofs.texts.Goals as goal

pub returns : goal.returns
unfolding chars is_utf8 digits lib.Utf8.encode value items members lex punctuate code_unit short_escape content after_number word number_of scan_numeral float_is_finite lib.Ieee.round
    shape_of point position each positions_of line ring polygon part single many coordinates single_at many_at geometry inner walk_of geometries feature only_feature feature_item parts_of_each features shape
returns c = record {
  stored_point = refl;
  stored_bounds = refl;
  other_order = refl;
  collection = refl;
  feature = refl;
  not_json = refl;
  not_spatial = refl;
  null_geometry = refl;
  no_position = refl;
  bad_type = refl;
  bare_feature = refl;
  not_whole = refl;
  out_of_range = refl;
  stored_out_of_range = refl;
  bad_ring = refl;
  too_few = refl;
  bad_position = refl;
  x_before_y = refl;
}
