use Rattle.std.proofs.Common.{refl}
use Rattle.std.specs.Str.{chars, is_utf8}
use Rattle.std.specs.Fmt.{digits}
use Rattle.byte_text.specs.Globs.{is_well_formed}
use Rattle.byte_text.specs.Streams.{request}
use Rattle.json.specs.Json.{value}
use Rattle.json.specs.Lex.{lex, punctuate}
use Rattle.geo_text.specs.Texts.{shape_of}
use Rattle.geo_text.specs.Geometries.{shape}
use Rattle.world_model.specs.Commands.{readings}
use Rattle.log_record.specs.Words.{change_of_words}
use Rattle.log_record.specs.Versions.{least_version, change_of_version}
use Rattle.log_record.specs.Batches.{number_bytes, records_in, batches_in}
use Rattle.log_record.specs.Readings.{reading}
use Rattle.worked_examples.proofs.log_versions.Goals as goal

pub returns : goal.returns
unfolding chars is_utf8 digits lib.Utf8.encode is_well_formed request value lex punctuate shape shape_of readings change_of_words least_version change_of_version number_bytes records_in batches_in reading
returns c = record {
  number = refl;
  text = refl;
  mortal = refl;
  range = refl;
  same = refl;
  among = refl;
  dated = refl;
  dated_same = refl;
  text_in_one = refl;
  text_in_two = refl;
  text_in_three = refl;
  number_in_one = refl;
  none_in_three = refl;
  first_version = refl;
  second_version = refl;
  no_version = refl;
  fourth_version = refl;
  last_version = refl;
  first_latest = refl;
  second_latest = refl;
  second_late = refl;
  latest = refl;
  older_in_use = refl;
  later_text = refl;
  text_stands = refl;
  dated_one = refl;
  dated_two = refl;
  dated_three = refl;
}
