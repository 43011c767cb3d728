use Rattle.std.proofs.Common.{refl}
use Rattle.std.specs.Str.{chars, is_utf8}
use Rattle.std.specs.Fmt.{digits}
use Rattle.byte_text.specs.Globs.{glob_meets, is_well_formed}
use Rattle.byte_text.specs.Streams.{request, stream_of}
use Rattle.worked_examples.proofs.byte_texts.Goals as goal

pub returns-clause-names : goal.returns-clause-names
unfolding chars is_utf8 digits lib.Utf8.encode request stream_of glob_meets is_well_formed
returns-clause-names c = record {
  order = refl;
  word = refl;
  name = refl;
  no_name = refl;
  empty = refl;
  long = refl;
  not_utf8 = refl;
  fine = refl;
}

pub returns-clause-numbers : goal.returns-clause-numbers
unfolding chars is_utf8 digits lib.Utf8.encode request stream_of glob_meets is_well_formed
returns-clause-numbers c = record {
  minus = refl;
  no_plus = refl;
  no_zero = refl;
  no_minus_zero = refl;
  great = refl;
  too_great = refl;
  least = refl;
  below_least = refl;
  over_greatest = refl;
  no_digit = refl;
  no_letter = refl;
}

pub returns-clause-texts : goal.returns-clause-texts
unfolding chars is_utf8 digits lib.Utf8.encode request stream_of glob_meets is_well_formed
returns-clause-texts c = record {
  escapes = refl;
  last_control = refl;
  request = refl;
  frame = refl;
}

pub returns-clause-globs : goal.returns-clause-globs
unfolding chars is_utf8 digits lib.Utf8.encode request stream_of glob_meets is_well_formed
returns-clause-globs c = record {
  star = refl;
  ranges = refl;
  escaped = refl;
  dash = refl;
  greek = refl;
  one_byte = refl;
  no_item = refl;
  unpaired = refl;
  no_close = refl;
  caret = refl;
  others = refl;
  no_other = refl;
  empty_others = refl;
  literal_dash = refl;
  the_dash = refl;
  to_bracket = refl;
  from_literal = refl;
  backwards = refl;
  nothing = refl;
  none_of_none = refl;
  long_class = refl;
}

pub returns-clause-streams : goal.returns-clause-streams
unfolding chars is_utf8 digits lib.Utf8.encode request stream_of glob_meets is_well_formed
returns-clause-streams c = record {
  two = refl;
  nothing = refl;
  bad_type = refl;
  bad_word = refl;
  no_words = refl;
  no_length = refl;
  leading_zero = refl;
  minus = refl;
  bare_lf = refl;
  no_lf = refl;
  short_word = refl;
  no_word_lf = refl;
  too_many = refl;
  most = refl;
  too_long = refl;
  longest = refl;
  fault_behind = refl;
}
