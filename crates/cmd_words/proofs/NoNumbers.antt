-- A word of letters is no number.
use Rattle.std.proofs.Common.{◌≡◌, ℕ, ℤ, pos, negsuc, ◌<◌, ◌≤◌, Bool, true, false, refl, sym, ap, subst, [], ◌∷◌, arith, rules, decimal}
use Rattle.std.specs.Prelude.{Option, Some, None, ◌&&◌, int_le, neg_ℤ, option_and_then, if◌then◌else◌}
use Rattle.std.specs.Char.{to_ascii_lowercase}
use Rattle.std.specs.Str.{str_to_ascii_lowercase}
use Rattle.std.specs.Fmt.{signed_decimal}
use Rattle.std.proofs.lemmas.Bool.Decides.{nat_tests}
use mir.Val.{SFits}
use mir.Syntax.{w64}
use Rattle.byte_text.specs.Names.{Bytes, same}
use Rattle.byte_text.specs.Numbers.{whole, whole_within, signed_value}
use Rattle.byte_text.specs.ByteOrder.{same_equal}
use Rattle.byte_text.specs.NumberLaws.{AreDigits, AreDigits-decimal}
use Rattle.ordered_lists.specs.Reading.{both_of}
use Rattle.world_data.specs.Limits.{max_coord}

abbrev first_of : ℕ → Bytes → ℕ
first_of other [] = other
first_of other (b ∷ bs) = b

lower_digit : (b : ℕ) → b < 58 → to_ascii_lowercase b ≡ b
lower_digit b l = grind (arith, nat_tests)

digits_differ : (ds : Bytes) (c : ℕ) (rest : Bytes) → AreDigits ds → 58 ≤ c → str_to_ascii_lowercase ds ≡ c ∷ rest → ⊥
digits_differ [] c rest d l e = absurd cc
digits_differ (b ∷ ds) c rest d l e = let same_byte : to_ascii_lowercase b ≡ c = ap (first_of 0) e in let low = lower_digit b d.0.1 in absurd (omega (arith, same_byte, low, d.0.1))

number_differs : (z : ℤ) (c : ℕ) (rest : Bytes) → SFits w64 z → 58 ≤ c → str_to_ascii_lowercase (signed_decimal z) ≡ c ∷ rest → ⊥
number_differs (pos n) c rest fits l e = digits_differ (decimal n) c rest (let limit = fits.sfits in AreDigits-decimal n (grind arith)) l e
number_differs (negsuc n) c rest fits l e = let same_byte : 45 ≡ c = ap (first_of 0) e in absurd (omega (arith, same_byte))

fits_in : (a : ℤ) → int_le (neg_ℤ (pos max_coord)) a ≡ true → int_le a (pos max_coord) ≡ true → SFits w64 a
fits_in a low high = search rules

printed : (w : Bytes) (v z : ℤ) (b : Bool) → same (signed_decimal v) w ≡ b → (if b then Some v else None) ≡ Some z → signed_decimal z ≡ w
printed w v z true test e = let it : v ≡ z = cc e in subst (λ x. signed_decimal x ≡ w) it (same_equal (signed_decimal v) w test)
printed w v z false test e = absurd (cc e)

within_is : (low high z : ℤ) (o : Option ℤ) → option_and_then (λ x. if int_le low x && int_le x high then Some x else None) o ≡ Some z → (o ≡ Some z) × (int_le low z ≡ true) × (int_le z high ≡ true)
within_is low high z None e = absurd cc
within_is low high z (Some x) e = by (int_le low x && int_le x high) refl e
  where
    by : (b : Bool) → (int_le low x && int_le x high) ≡ b → (if b then Some x else None) ≡ Some z → (Some x ≡ Some z) × (int_le low z ≡ true) × (int_le z high ≡ true)
    by true t f = let it : x ≡ z = cc f in let h = both_of (int_le low x) (int_le x high) t in (f, subst (λ y. int_le low y ≡ true) it h.0, subst (λ y. int_le y high ≡ true) it h.1)
    by false t f = absurd cc

-- the word begins with a letter, so it is no coordinate
pub no_coordinate_word : (w : Bytes) (c : ℕ) (rest : Bytes) → str_to_ascii_lowercase w ≡ c ∷ rest → 58 ≤ c → whole_within (neg_ℤ (pos max_coord)) (pos max_coord) w ≡ None
no_coordinate_word w c rest e l = by (whole_within (neg_ℤ (pos max_coord)) (pos max_coord) w) refl
  where
    by : (o : Option ℤ) → whole_within (neg_ℤ (pos max_coord)) (pos max_coord) w ≡ o → whole_within (neg_ℤ (pos max_coord)) (pos max_coord) w ≡ None
    by None t = t
    by (Some z) t =
        let h = within_is (neg_ℤ (pos max_coord)) (pos max_coord) z (whole w) t in
        let text : signed_decimal z ≡ w = printed w (signed_value w) z (same (signed_decimal (signed_value w)) w) refl h.0 in
        absurd (number_differs z c rest (fits_in z h.1 h.2) l (subst (λ (v : Bytes). str_to_ascii_lowercase v ≡ c ∷ rest) (sym text) e))
