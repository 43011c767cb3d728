use Rattle.std.proofs.Common.{refl}
use Rattle.std.specs.Str.{chars, is_utf8}
use Rattle.std.specs.Fmt.{digits}
use Rattle.byte_text.specs.Globs.{is_well_formed, glob_meets}
use Rattle.planar_geom.specs.Points.{floor_root}
use Rattle.planar_geom.specs.Relations.{intersects, within}
use Rattle.geo_text.specs.Texts.{shape_of}
use Rattle.world_model.specs.Commands.{readings}
use Rattle.world_model.specs.Effects.{effect}
use Rattle.fence_model.specs.Messages.{messages}
use Rattle.world_model.specs.Halls.{apply}
use Rattle.std.specs.Float.Numeral.{scan_numeral}
use Rattle.std.specs.Float.{float_is_finite}
use Rattle.json.specs.Json.{value, items, members}
use Rattle.json.specs.Lex.{lex, punctuate}
use Rattle.json.specs.Text.{code_unit, short_escape, content}
use Rattle.json.specs.Word.{after_number, word}
use Rattle.serde_json.specs.Read.{number_of}
use Rattle.geo_text.specs.Walks.{point, position, each, positions_of, line, ring, polygon}
use Rattle.geo_text.specs.Geometries.{part, single, many, coordinates, single_at, many_at, geometry, inner, walk_of, geometries, feature, only_feature, feature_item, parts_of_each, features, shape}
use Rattle.worked_examples.proofs.areas.Goals as goal

pub returns : goal.returns
unfolding chars is_utf8 digits lib.Utf8.encode is_well_formed glob_meets intersects within floor_root readings shape_of effect messages apply value items members lex punctuate code_unit short_escape content after_number word number_of scan_numeral float_is_finite lib.Ieee.round point position each positions_of line ring polygon part single many coordinates single_at many_at geometry inner walk_of geometries feature only_feature feature_item parts_of_each features shape
returns c = record { edges_are_in = refl; round_the_hole = refl }
