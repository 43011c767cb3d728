use Rattle.std.proofs.Common.{refl}
use Rattle.std.specs.Str.{chars, is_utf8}
use Rattle.std.specs.Fmt.{digits}
use Rattle.byte_text.specs.Globs.{is_well_formed}
use Rattle.byte_text.specs.Streams.{request}
use Rattle.geo_text.specs.Texts.{shape_of}
use Rattle.world_model.specs.Commands.{readings}
use Rattle.log_record.specs.Words.{change_of_words}
use Rattle.log_record.specs.Versions.{least_version, change_of_version}
use Rattle.log_record.specs.Batches.{number_bytes, records_in, batches_in}
use Rattle.log_record.specs.Readings.{reading}
use Rattle.worked_examples.proofs.log_sides.Goals as goal

pub returns : goal.returns
unfolding chars is_utf8 digits lib.Utf8.encode is_well_formed request shape_of readings change_of_words least_version change_of_version records_in batches_in number_bytes reading
returns c = record {
  length = refl;
  text = refl;
  whole = refl;
  no_byte = refl;
  one_byte = refl;
  no_gate = refl;
  no_length = refl;
  half_length = refl;
  half_batch = refl;
  no_last_gate = refl;
  torn = refl;
  torn_two = refl;
  stale = refl;
  side_closed = refl;
  side_closed_b = refl;
  mark_wrong = refl;
  version_wrong = refl;
  zeros_wrong = refl;
  generation_wrong = refl;
  old_header = refl;
  header_b = refl;
  header_a_first = refl;
  equal = refl;
  newer_b = refl;
  newer_a = refl;
  old_broken = refl;
  b_broken = refl;
  no_record = refl;
  second_record = refl;
  two_batches = refl;
}
