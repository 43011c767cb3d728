-- Words that are the texts of numbers: they are names, so the value of such a word is its number.
use Rattle.std.proofs.Common.{◌≡◌, ◌≤◌, ℤ, pos, negsuc, suc, ◌^◌, ◌<◌, true, length, refl, ap, ◌∙◌, arith}
use Rattle.std.specs.Prelude.{Option, Some, None, Ok, Err, nat_le, IsAscii}
use Rattle.std.specs.Fmt.{signed_decimal}
use Rattle.std.proofs.lemmas.Bool.{le-leb}
use Rattle.std.proofs.lemmas.Fmt.{decimal_nonempty, length-decimal-le, IsAscii-decimal, IsAscii-signed}
use Rattle.std.proofs.lemmas.Str.{is_utf8-from_IsUtf8, IsUtf8-from_ascii}
use mir.Syntax.{w64}
use mir.Val.{SFits as FitsSigned}
use Rattle.byte_text.specs.Names.{Bytes, is_name}
use Rattle.byte_text.specs.Numbers.{number_or_fault, read_whole}
use Rattle.byte_text.specs.declared.texts.TextFault.{TextFault}
use Rattle.world_data.specs.Filters.{number_in}
use Rattle.world_data.specs.declared.values.Value.TheVariants.{Whole}
use Rattle.world_model.specs.Kinds.{value_of_word}

read_is : (o : Option ℤ) (z : ℤ) → Ok z ≡ number_or_fault o → o ≡ Some z
read_is None z e = absurd (cc e)
read_is (Some y) z e = cc e

pub not_read : (o : Option ℤ) (f : TextFault) → Err f ≡ number_or_fault o → o ≡ None
not_read None f e = refl
not_read (Some z) f e = absurd (cc e)

short_name : (w : Bytes) → 1 ≤ length w → length w ≤ 21 → IsAscii w → is_name w ≡ true
short_name w some few ascii =
    let low : nat_le 1 (length w) ≡ true = le-leb 1 (length w) some in
    let high : nat_le (length w) 255 ≡ true = le-leb (length w) 255 (omega (arith, few)) in
    rw (low, high, is_utf8-from_IsUtf8 w (IsUtf8-from_ascii w ascii)) refl

number_name : (z : ℤ) → FitsSigned w64 z → is_name (signed_decimal z) ≡ true
number_name (pos n) fits =
    let limit = fits.sfits in
    let small : n < 2 ^ 64 = grind arith in
    let some = decimal_nonempty n small in
    let few = length-decimal-le 21 n (omega arith) (omega (arith, small)) small in
    short_name (signed_decimal (pos n)) (omega (arith, some)) few (IsAscii-decimal n small)
number_name (negsuc n) fits =
    let limit = fits.sfits in
    let small : suc n < 2 ^ 64 = grind arith in
    let few = length-decimal-le 20 (suc n) (omega arith) (omega (arith, small)) small in
    short_name (signed_decimal (negsuc n)) (omega arith) (omega (arith, few)) (IsAscii-signed (negsuc n) limit)

pub number_value : (w : Bytes) (z : ℤ) → FitsSigned w64 z → w ≡ signed_decimal z → Ok z ≡ read_whole w → value_of_word w ≡ Some (Whole z)
number_value w z fits is read =
    let name : is_name w ≡ true = ap is_name is ∙ number_name z fits in
    let number : number_in w ≡ Some z = read_is (number_in w) z read in
    rw (name, number) refl
