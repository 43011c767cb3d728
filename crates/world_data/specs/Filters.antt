-- Fields, their values and the tests on them.
use Rattle.std.specs.Prelude.{ℤ, pos, neg_ℤ, ◌-◌, ◌^◌, Bool, true, false, not, ◌&&◌, List, [], ◌∷◌, Option, Some, None, is_some, int_le, filter, find}
use Rattle.std.specs.Prelude.{option_map, unwrap_or}
use Rattle.std.specs.List.{list_any, list_all}
use Rattle.std.specs.Fmt.{signed_decimal}
use Rattle.byte_text.specs.Names.{Bytes, same, before}
use Rattle.byte_text.specs.Numbers.{whole_within}
use Rattle.byte_text.specs.JsonText.{quoted}
use Rattle.byte_text.specs.Globs.{glob_meets}
use Rattle.planar_geom.specs.Points.{same_int}
use Rattle.ordered_lists.specs.Lists.{ascends, put_in}
use Rattle.world_data.specs.declared.values.Value.{Value}
use Rattle.world_data.specs.declared.values.Value.TheVariants.{Whole, Word}
use Rattle.world_data.specs.declared.filters.Test.{Test}
use Rattle.world_data.specs.declared.filters.Test.TheVariants.{Range, Same, Among}

-- the whole number of 64 bits of which a word is the canonical text
abbrev pub number_in : Bytes → Option ℤ
number_in = whole_within (neg_ℤ (pos (2 ^ 63))) (pos (2 ^ 63 - 1))

abbrev pub is_number : Bytes → Bool
is_number w = is_some (number_in w)

-- a number where there is one, else the text
abbrev pub number_or_text : Bytes → Option ℤ → Value
number_or_text w None = Word w
number_or_text w (Some z) = Whole z

-- the value that a word writes: the number of which it is the text, else that text
abbrev pub value_in : Bytes → Value
value_in w = number_or_text w (number_in w)

-- the text of a value, and its JSON: a number, or a string
abbrev pub value_text : Value → Bytes
value_text (Whole z) = signed_decimal z
value_text (Word w) = w

abbrev pub value_json : Value → Bytes
value_json (Whole z) = signed_decimal z
value_json (Word w) = quoted w

-- a number is the same as a number, and a text as a text, byte for byte
abbrev pub same_value : Value → Value → Bool
same_value (Whole y) (Whole z) = same_int y z
same_value (Word v) (Word w) = same v w
same_value (Whole z) (Word w) = false
same_value (Word w) (Whole z) = false

abbrev pub zero_value : Value
zero_value = Whole (pos 0)

abbrev pub Field : Type 0
Field = Bytes × Value

abbrev pub field_before : Field → Field → Bool
field_before f g = before f.0 g.0

-- no field has this value: the number 0, or the text of a number, which stands as that number alone
abbrev pub is_no_value : Value → Bool
is_no_value (Whole z) = same_int z (pos 0)
is_no_value (Word w) = is_number w

abbrev pub is_absent : Field → Bool
is_absent f = is_no_value f.1

abbrev pub is_called : Bytes → Field → Bool
is_called name f = same f.0 name

-- fields in byte order of their names, no name twice, and values that a field may have
abbrev pub are_fields : List Field → Bool
are_fields fields = ascends field_before fields && list_all (λ f. not (is_absent f)) fields

-- the value of a field, the number 0 where it is missing
abbrev pub value_of : List Field → Bytes → Value
value_of fields name = unwrap_or (option_map (λ f. f.1) (find (is_called name) fields)) zero_value

-- each name with the last value given to it, in byte order, 0 too
abbrev pub last_values : List Field → List Field → List Field
last_values found [] = found
last_values found (f ∷ fs) = last_values (put_in field_before f found) fs

-- the fields with these values given: a field that is given 0 goes
abbrev pub with_values : List Field → List Field → List Field
with_values fields given = filter (λ f. not (is_absent f)) (last_values fields given)

abbrev pub at_least : Option ℤ → ℤ → Bool
at_least None n = true
at_least (Some low) n = int_le low n

abbrev pub at_most : Option ℤ → ℤ → Bool
at_most None n = true
at_most (Some high) n = int_le n high

-- a number within a range; no text is in any
abbrev pub is_within : Option ℤ → Option ℤ → Value → Bool
is_within low high (Whole n) = at_least low n && at_most high n
is_within low high (Word w) = false

abbrev pub passes_one : List Field → Test → Bool
passes_one fields (Range name low high) = is_within low high (value_of fields name)
passes_one fields (Same name text) = same_value (Word text) (value_of fields name)
passes_one fields (Among name values) = list_any (same_value (value_of fields name)) values

-- all tests hold
abbrev pub passes : List Test → List Field → Bool
passes tests fields = list_all (passes_one fields) tests

-- MATCH: no pattern, or one that meets the name
abbrev pub meets_glob : Option Bytes → Bytes → Bool
meets_glob None name = true
meets_glob (Some pattern) name = glob_meets pattern name
