-- Values of fields, and the tests on them.
use Rattle.std.specs.Prelude.{◌≡◌, pos, negsuc, true, false, List, [], ◌∷◌, codes, Some, None}
use Rattle.byte_text.specs.Names.{Bytes}
use Rattle.world_data.specs.declared.values.Value.TheVariants.{Whole, Word}
use Rattle.world_data.specs.declared.filters.Test.TheVariants.{Range, Same, Among}
use Rattle.world_data.specs.Filters.{Field, value_in, value_of, is_no_value, same_value, passes_one, with_values, value_text, value_json}

-- what a word writes: a canonical number of 64 bits, or a text
pub record HoldsValues : Type 0 where
  pub number : value_in (codes "5") ≡ Whole (pos 5)
  pub minus : value_in (codes "-12") ≡ Whole (negsuc 11)
  pub zero : value_in (codes "0") ≡ Whole (pos 0)
  pub least : value_in (codes "-9223372036854775808") ≡ Whole (negsuc 9223372036854775807)
  pub too_great : value_in (codes "9223372036854775808") ≡ Word (codes "9223372036854775808")
  pub zeros : value_in (codes "007") ≡ Word (codes "007")
  pub minus_zero : value_in (codes "-0") ≡ Word (codes "-0")
  pub fraction : value_in (codes "1.5") ≡ Word (codes "1.5")
  pub text : value_in (codes "idle") ≡ Word (codes "idle")
  -- no field has 0, nor a text that writes a number
  pub zero_is_none : is_no_value (value_in (codes "0")) ≡ true
  pub text_of_zero : is_no_value (Word (codes "0")) ≡ true
  pub text_of_number : is_no_value (Word (codes "5")) ≡ true
  pub some_text : is_no_value (value_in (codes "007")) ≡ false
  pub some_number : is_no_value (value_in (codes "-12")) ≡ false
  pub no_text : same_value (value_in (codes "5")) (value_in (codes "05")) ≡ false
  pub same_text : same_value (value_in (codes "05")) (value_in (codes "05")) ≡ true
  pub other_case : same_value (value_in (codes "Idle")) (value_in (codes "idle")) ≡ false
  pub shown_text : value_text (Word (codes "a\"b")) ≡ codes "a\"b"
  pub json_text : value_json (Word (codes "a\"b")) ≡ codes "\"a\\\"b\""
  pub json_number : value_json (Whole (negsuc 11)) ≡ codes "-12"

abbrev state : Bytes
state = codes "state"

abbrev n : Bytes
n = codes "n"

-- a text and a number
abbrev fields : List Field
fields = (n, Whole (pos 3)) ∷ (state, Word (codes "idle")) ∷ []

pub record HoldsTests : Type 0 where
  pub same : passes_one fields (Same state (codes "idle")) ≡ true
  pub another : passes_one fields (Same state (codes "busy")) ≡ false
  pub of_number : passes_one fields (Same n (codes "idle")) ≡ false
  pub of_missing : passes_one fields (Same (codes "none") (codes "idle")) ≡ false
  pub no_range : passes_one fields (Range state None None) ≡ false
  pub range : passes_one fields (Range n (Some (pos 3)) None) ≡ true
  pub missing_is_zero : passes_one fields (Range (codes "none") (Some (pos 0)) (Some (pos 0))) ≡ true
  pub among : passes_one fields (Among state (Whole (pos 3) ∷ Word (codes "idle") ∷ [])) ≡ true
  pub not_among : passes_one fields (Among n (Whole (pos 4) ∷ Word (codes "idle") ∷ [])) ≡ false
  pub zero_among : passes_one fields (Among (codes "none") (Word (codes "idle") ∷ Whole (pos 0) ∷ [])) ≡ true
  pub missing : value_of fields (codes "none") ≡ Whole (pos 0)
  -- 0 takes a text away, and a number comes over a text
  pub zero_over_text : with_values fields ((state, Whole (pos 0)) ∷ []) ≡ (n, Whole (pos 3)) ∷ []
  pub text_over_number : with_values fields ((n, Word (codes "007")) ∷ [])
      ≡ (n, Word (codes "007")) ∷ (state, Word (codes "idle")) ∷ []
