use Rattle.std.proofs.Common.{refl}
use Rattle.std.specs.Str.{chars, is_utf8}
use Rattle.std.specs.Fmt.{digits}
use Rattle.worked_examples.proofs.values.Goals as goal

pub returns-clause-values : goal.returns-clause-values
unfolding chars is_utf8 digits lib.Utf8.encode
returns-clause-values c = record {
  number = refl;
  minus = refl;
  zero = refl;
  least = refl;
  too_great = refl;
  zeros = refl;
  minus_zero = refl;
  fraction = refl;
  text = refl;
  zero_is_none = refl;
  text_of_zero = refl;
  text_of_number = refl;
  some_text = refl;
  some_number = refl;
  no_text = refl;
  same_text = refl;
  other_case = refl;
  shown_text = refl;
  json_text = refl;
  json_number = refl;
}

pub returns-clause-tests : goal.returns-clause-tests
unfolding chars is_utf8 digits lib.Utf8.encode
returns-clause-tests c = record {
  same = refl;
  another = refl;
  of_number = refl;
  of_missing = refl;
  no_range = refl;
  range = refl;
  missing_is_zero = refl;
  among = refl;
  not_among = refl;
  zero_among = refl;
  missing = refl;
  zero_over_text = refl;
  text_over_number = refl;
}
