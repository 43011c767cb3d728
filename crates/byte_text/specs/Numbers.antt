-- Canonical numbers: a word is the text of a number exactly as that number is printed.
use Rattle.std.specs.Prelude.{ℕ, ◌+◌, ◌*◌, ◌-◌, ◌==◌, ◌&&◌, ℤ, pos, negsuc, Result, Ok, Err, neg_ℤ, int_le, [], ◌∷◌, fold, decimal, Option, Some}
use Rattle.std.specs.Prelude.{None, if◌then◌else◌, option_and_then, nat_le}
use Rattle.std.specs.Fmt.{signed_decimal}
use Rattle.byte_text.specs.Names.{Bytes, same}
use Rattle.byte_text.specs.declared.texts.TextFault.{TextFault}
use Rattle.byte_text.specs.declared.texts.TextFault.TheVariants.{NotNumber}

-- the value of decimal digits
abbrev pub digits_value : Bytes → ℕ
digits_value bytes = fold (λ n b. 10 * n + (b - 48)) 0 bytes

-- the value of digits that a `-` may precede
abbrev pub signed_value : Bytes → ℤ
signed_value [] = pos 0
signed_value (b ∷ bytes) = if b == 45 then neg_ℤ (pos (digits_value bytes)) else pos (digits_value (b ∷ bytes))

-- the whole number of which the word is the canonical text
abbrev pub whole : Bytes → Option ℤ
whole w = if same (signed_decimal (signed_value w)) w then Some (signed_value w) else None

-- the natural number of which the word is the canonical text
abbrev pub natural : Bytes → Option ℕ
natural w = if same (decimal (digits_value w)) w then Some (digits_value w) else None

-- such a whole number, where it is within bounds
abbrev pub whole_within : ℤ → ℤ → Bytes → Option ℤ
whole_within low high w = option_and_then (λ z. if int_le low z && int_le z high then Some z else None) (whole w)

-- such a natural number, where it is within bounds
abbrev pub natural_within : ℕ → ℕ → Bytes → Option ℕ
natural_within low high w = option_and_then (λ n. if nat_le low n && nat_le n high then Some n else None) (natural w)

-- the number of an answer, or that there is none
abbrev pub number_or_fault : {A : Type 0} → Option A → Result A TextFault
number_or_fault None = Err NotNumber
number_or_fault (Some n) = Ok n

-- a canonical natural number of 64 bits
abbrev pub read_natural : Bytes → Result ℕ TextFault
read_natural w = number_or_fault (natural_within 0 18446744073709551615 w)

-- a canonical whole number of 64 bits
abbrev pub read_whole : Bytes → Result ℤ TextFault
read_whole w = number_or_fault (whole_within (negsuc 9223372036854775807) (pos 9223372036854775807) w)
