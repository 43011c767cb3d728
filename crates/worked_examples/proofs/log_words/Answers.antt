use Rattle.std.proofs.Common.{refl}
use Rattle.std.specs.Str.{chars, is_utf8}
use Rattle.std.specs.Fmt.{digits}
use Rattle.byte_text.specs.Globs.{is_well_formed}
use Rattle.byte_text.specs.Streams.{request}
use Rattle.json.specs.Json.{value}
use Rattle.json.specs.Lex.{lex, punctuate}
use Rattle.geo_text.specs.Texts.{shape_of}
use Rattle.geo_text.specs.Geometries.{shape}
use Rattle.world_model.specs.Commands.{readings}
use Rattle.log_record.specs.Words.{change_of_words}
use Rattle.log_record.specs.Batches.{records_in, batches_in}
use Rattle.log_record.specs.Readings.{reading}
use Rattle.worked_examples.proofs.log_words.Goals as goal

pub returns : goal.returns
unfolding chars is_utf8 digits lib.Utf8.encode is_well_formed request value lex punctuate shape shape_of readings change_of_words records_in batches_in reading
returns c = record {
  put = refl;
  all = refl;
  lower = refl;
  point = refl;
  order = refl;
  twice = refl;
  zero_value = refl;
  not_canonical = refl;
  too_great = refl;
  no_value = refl;
  great = refl;
  late = refl;
  no_text = refl;
  bad_text = refl;
  called_at = refl;
  del = refl;
  drop = refl;
  flush = refl;
  flush_more = refl;
  delchan = refl;
  none = refl;
  ping = refl;
  setchan = refl;
  not_normal = refl;
  by_get = refl;
  roam = refl;
  disc = refl;
  figure = refl;
  same = refl;
  two_texts = refl;
  dated = refl;
  dated_last = refl;
  too_late = refl;
  date_not_canonical = refl;
  dated_twice = refl;
  date_behind = refl;
  no_date = refl;
  seconds = refl;
}
