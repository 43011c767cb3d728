-- The readers of canonical numbers answer what their definitions say.
use Rattle.std.proofs.Common.{arith, ◌≡◌, ℕ, ℤ, pos, negsuc, ◌^◌, ◌<◌, ◌≤◌, int_le, decimal, Ok, Err, Result, Option, Some, None, ◌∙◌, sym, ap, refl, subst, w64, Bool, true, false, nat_le, ◌&&◌, if◌then◌else◌, MatchResult}
use Rattle.std.specs.Fmt.{signed_decimal}
use Rattle.std.specs.Cmp.Derive.{both_true}
use Rattle.byte_text.specs.ByteOrder.{same_refl, same_equal}
use Rattle.std.proofs.lemmas.Bool.{le-leb, leb-true}
use mir.Val.{SFits as FitsSigned}
use Rattle.byte_text.specs.Names.{Bytes, same}
use Rattle.byte_text.specs.Numbers.{digits_value, signed_value, whole, natural, number_or_fault, read_natural, read_whole}
use Rattle.byte_text.specs.TestLaws.{both_of}
use Rattle.byte_text.specs.NumberLaws.{digits_back, signed_back}
use Rattle.byte_text.specs.declared.texts.TextFault.{TextFault}
use Rattle.byte_text.specs.declared.texts.TextFault.TheVariants.{NotNumber}

-- equal lists are the same
same_is : (a b : Bytes) → a ≡ b → same a b ≡ true
same_is a b e = subst (λ c. same a c ≡ true) e (same_refl a)

-- a test by cases of its value
by_test : {A : Type 0} (P : A → Type 0) (b : Bool) (x y : A) → (b ≡ true → P x) → (b ≡ false → P y) → P (if b then x else y)
by_test P true x y f g = f refl
by_test P false x y f g = g refl

-- the natural number of a text that is one
pub natural_is : (w : Bytes) (n : ℕ) → n < 2 ^ 64 → w ≡ decimal n → natural w ≡ Some n
natural_is w n small e =
    let v : digits_value w ≡ n = ap digits_value e ∙ digits_back n small in
    let s : same (decimal (digits_value w)) w ≡ true = same_is (decimal (digits_value w)) w (ap decimal v ∙ sym e) in
    rw s (ap Some v)

pub natural_of : (w : Bytes) (n : ℕ) → natural w ≡ Some n → w ≡ decimal n
natural_of w n = by_test (λ (o : Option ℕ). o ≡ Some n → w ≡ decimal n) (same (decimal (digits_value w)) w) (Some (digits_value w)) None
    (λ s e. let v : digits_value w ≡ n = cc e in sym (same_equal (decimal (digits_value w)) w s) ∙ ap decimal v)
    (λ s e. absurd (cc e))

-- within 64 bits
abbrev natural_fits : ℕ → Bool
natural_fits n = nat_le 0 n && nat_le n 18446744073709551615

abbrev whole_fits : ℤ → Bool
whole_fits z = int_le (negsuc 9223372036854775807) z && int_le z (pos 9223372036854775807)

natural_fits_by : (n : ℕ) → n < 2 ^ 64 → natural_fits n ≡ true
natural_fits_by n small = both_true (le-leb 0 n (omega arith)) (le-leb n 18446744073709551615 (omega (arith, small)))

by_natural_fits : (n : ℕ) → natural_fits n ≡ true → n < 2 ^ 64
by_natural_fits n e = omega (arith, leb-true n 18446744073709551615 (both_of (nat_le 0 n) _ e).1)

whole_fits_by : (z : ℤ) → FitsSigned w64 z → whole_fits z ≡ true
whole_fits_by (pos n) fits = le-leb n 9223372036854775807 (omega (arith, fits.sfits))
whole_fits_by (negsuc n) fits = both_true (le-leb n 9223372036854775807 (omega (arith, fits.sfits))) refl

by_whole_fits : (z : ℤ) → whole_fits z ≡ true → FitsSigned w64 z
by_whole_fits (pos n) e = let l : n ≤ 9223372036854775807 = leb-true n 9223372036854775807 e in record { sfits = omega (arith, l) }
by_whole_fits (negsuc n) e = let l : n ≤ 9223372036854775807 = leb-true n 9223372036854775807 (both_of (int_le (negsuc 9223372036854775807) (negsuc n)) _ e).0 in record { sfits = omega (arith, l) }

-- the reader's answer is the definition's
read_natural_by : (w : Bytes) (r : Result ℕ TextFault) (o : Option ℕ) → natural w ≡ o → MatchResult r (λ n. (n < 2 ^ 64) × (w ≡ decimal n)) (λ e. e ≡ NotNumber)
    → ((n : ℕ) → n < 2 ^ 64 → w ≡ decimal n → r ≡ Ok n) → r ≡ read_natural w
read_natural_by w (Ok n) o e h exact = let fits : natural_fits n ≡ true = natural_fits_by n h.0 in rw (natural_is w n h.0 h.1, fits) refl
read_natural_by w (Err f) None e h exact = rw (e, h) refl
read_natural_by w (Err f) (Some n) e h exact =
    rw (e, h) (by_test (λ (o : Option ℕ). Err NotNumber ≡ number_or_fault o) (natural_fits n) (Some n) None
    (λ t. let l : n < 2 ^ 64 = by_natural_fits n t in absurd (cc (exact n l (natural_of w n e))))
    (λ t. refl))

pub read_natural_is : (w : Bytes) (r : Result ℕ TextFault) → MatchResult r (λ n. (n < 2 ^ 64) × (w ≡ decimal n)) (λ e. e ≡ NotNumber)
    → ((n : ℕ) → n < 2 ^ 64 → w ≡ decimal n → r ≡ Ok n) → r ≡ read_natural w
read_natural_is w r h exact = read_natural_by w r (natural w) refl h exact

-- the same for whole numbers

pub whole_is : (w : Bytes) (z : ℤ) → FitsSigned w64 z → w ≡ signed_decimal z → whole w ≡ Some z
whole_is w z fits e =
    let v : signed_value w ≡ z = ap signed_value e ∙ signed_back z fits in
    let s : same (signed_decimal (signed_value w)) w ≡ true = same_is (signed_decimal (signed_value w)) w (ap signed_decimal v ∙ sym e) in
    rw s (ap Some v)

pub whole_of : (w : Bytes) (z : ℤ) → whole w ≡ Some z → w ≡ signed_decimal z
whole_of w z = by_test (λ (o : Option ℤ). o ≡ Some z → w ≡ signed_decimal z) (same (signed_decimal (signed_value w)) w) (Some (signed_value w)) None
    (λ s e. let v : signed_value w ≡ z = cc e in sym (same_equal (signed_decimal (signed_value w)) w s) ∙ ap signed_decimal v)
    (λ s e. absurd (cc e))

read_whole_by : (w : Bytes) (r : Result ℤ TextFault) (o : Option ℤ) → whole w ≡ o → MatchResult r (λ z. FitsSigned w64 z × (w ≡ signed_decimal z)) (λ e. e ≡ NotNumber)
    → ((z : ℤ) → FitsSigned w64 z → w ≡ signed_decimal z → r ≡ Ok z) → r ≡ read_whole w
read_whole_by w (Ok z) o e h exact = let fits : whole_fits z ≡ true = whole_fits_by z h.0 in rw (whole_is w z h.0 h.1, fits) refl
read_whole_by w (Err f) None e h exact = rw (e, h) refl
read_whole_by w (Err f) (Some z) e h exact =
    rw (e, h) (by_test (λ (o : Option ℤ). Err NotNumber ≡ number_or_fault o) (whole_fits z) (Some z) None
    (λ t. absurd (cc (exact z (by_whole_fits z t) (whole_of w z e))))
    (λ t. refl))

pub read_whole_is : (w : Bytes) (r : Result ℤ TextFault) → MatchResult r (λ z. FitsSigned w64 z × (w ≡ signed_decimal z)) (λ e. e ≡ NotNumber)
    → ((z : ℤ) → FitsSigned w64 z → w ≡ signed_decimal z → r ≡ Ok z) → r ≡ read_whole w
read_whole_is w r h exact = read_whole_by w r (whole w) refl h exact
