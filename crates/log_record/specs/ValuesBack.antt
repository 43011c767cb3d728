-- A value is read back from its text.
use Rattle.std.proofs.Common.{◌≡◌, ℤ, pos, ◌&&◌, Bool, true, false, int_le, Option, Some, None, refl, ap, subst, ◌∙◌}
use Rattle.std.specs.Prelude.{neg_ℤ, ◌-◌, ◌^◌, is_some, option_and_then, if◌then◌else◌}
use Rattle.std.specs.Fmt.{signed_decimal}
use Rattle.byte_text.specs.Names.{Bytes, same}
use Rattle.byte_text.specs.Numbers.{whole, signed_value}
use Rattle.byte_text.specs.NumberLaws.{signed_back}
use Rattle.byte_text.specs.ByteOrder.{same_equal, same_refl}
use Rattle.world_data.specs.Filters.{number_in, number_or_text, value_in, value_text, is_no_value}
use Rattle.world_data.specs.Records.{is_kept_value}
use Rattle.world_data.specs.declared.values.Value.{Value}
use Rattle.world_data.specs.declared.values.Value.TheVariants.{Whole, Word}
use Rattle.log_record.specs.RecordsRead.{fits_of}

-- the word of a number is the number's text

printed : (w : Bytes) (v z : ℤ) (b : Bool) → same (signed_decimal v) w ≡ b → (if b then Some v else None) ≡ Some z → signed_decimal z ≡ w
printed w v z true test e = let it : v ≡ z = cc e in subst (λ x. signed_decimal x ≡ w) it (same_equal (signed_decimal v) w test)
printed w v z false test e = absurd (cc e)

pub whole_printed : (w : Bytes) (z : ℤ) → whole w ≡ Some z → signed_decimal z ≡ w
whole_printed w z e = printed w (signed_value w) z (same (signed_decimal (signed_value w)) w) refl e

kept_whole : (x z : ℤ) (b : Bool) → (if b then Some x else None) ≡ Some z → Some x ≡ Some z
kept_whole x z true e = e
kept_whole x z false e = absurd (cc e)

pub within_whole : (low high z : ℤ) (o : Option ℤ) → option_and_then (λ x. if int_le low x && int_le x high then Some x else None) o ≡ Some z
    → o ≡ Some z
within_whole low high z None e = absurd (cc e)
within_whole low high z (Some x) e = kept_whole x z (int_le low x && int_le x high) e

abbrev pub least_number : ℤ
least_number = neg_ℤ (pos (2 ^ 63))

abbrev pub most_number : ℤ
most_number = pos (2 ^ 63 - 1)

pub number_printed : (w : Bytes) (z : ℤ) → number_in w ≡ Some z → signed_decimal z ≡ w
number_printed w z e = whole_printed w z (within_whole least_number most_number z (whole w) e)

-- the text of what a word writes is the word
pub value_again : (w : Bytes) → value_text (value_in w) ≡ w
value_again w = by (number_in w) refl
  where
    by : (o : Option ℤ) → number_in w ≡ o → value_text (number_or_text w o) ≡ w
    by None e = refl
    by (Some z) e = number_printed w z e

-- and the text of a value that is kept writes that value

pub number_back : (z : ℤ) → is_kept_value (Whole z) ≡ true → number_in (signed_decimal z) ≡ Some z
number_back z kept =
    let text : Bytes = signed_decimal z in
    let is : whole text ≡ Some z =
    ap (λ (y : ℤ). if same (signed_decimal y) text then Some y else None) (signed_back z (fits_of z kept))
    ∙ ap (λ (b : Bool). if b then Some z else None) (same_refl text) in
    ap (option_and_then (λ y. if int_le least_number y && int_le y most_number then Some y else None)) is
    ∙ ap (λ (b : Bool). if b then Some z else None) kept

no_number : (o : Option ℤ) → is_some o ≡ false → o ≡ None
no_number None e = refl
no_number (Some z) e = absurd (cc e)

pub value_back : (v : Value) → is_kept_value v ≡ true → is_no_value v ≡ false → value_in (value_text v) ≡ v
value_back (Whole z) kept some = ap (number_or_text (signed_decimal z)) (number_back z kept)
value_back (Word w) kept some = ap (number_or_text w) (no_number (number_in w) some)
