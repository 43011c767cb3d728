use Rattle.std.proofs.Common.{refl}
use Rattle.std.specs.Str.{chars, is_utf8}
use Rattle.std.specs.Fmt.{digits}
use Rattle.world_model.specs.Commands.{readings}
use Rattle.byte_text.specs.Globs.{is_well_formed, glob_meets}
use Rattle.planar_geom.specs.Points.{floor_root}
use Rattle.planar_geom.specs.Relations.{intersects, within}
use Rattle.geo_text.specs.Texts.{shape_of}
use Rattle.worked_examples.proofs.commands.Goals as goal

pub returns : goal.returns
unfolding chars is_utf8 digits lib.Utf8.encode is_well_formed glob_meets intersects within floor_root readings shape_of
returns c = record {
  set = refl;
  fields = refl;
  fset = refl;
  unfinished = refl;
  too_far = refl;
  fraction = refl;
  unknown = refl;
  no_more = refl;
  half = refl;
  both_bounds = refl;
  over = refl;
  dwell_spot = refl;
  dwell_within = refl;
  detect_roam = refl;
  later_of_two = refl;
  no_fence = refl;
  list_word = refl;
  twice = refl;
  behind_output = refl;
  texts = refl;
  bound_and_text = refl;
  text_and_bound = refl;
  endless_and_text = refl;
  two_texts = refl;
  half_test = refl;
  late_seconds = refl;
  seconds_twice = refl;
  no_seconds = refl;
  half_setting = refl;
}
