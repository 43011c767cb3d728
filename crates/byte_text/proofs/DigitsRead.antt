-- A canonical text read digit by digit.
use Rattle.std.proofs.Common.{◌≡◌, ℕ, zero, suc, ◌+◌, ◌-◌, ◌*◌, ◌/◌, ◌%◌, ◌^◌, ◌<◌, ◌≤◌, [], ◌∷◌, ◌++◌, decimal, ◌≢◌, ℤ, pos, negsuc, refl, sym, ap, subst, ◌∙◌, arith, fold, get_or, take, drop, length, append_assoc, take_all}
use Rattle.std.proofs.lemmas.Fmt.{decimal_step, decimal_digit, decimal_injective, first_decimal, decimal_nonempty}
use Rattle.std.specs.Fmt.{signed_decimal}
use mir.Val.{SFits}
use mir.Syntax.{w64}
use Rattle.byte_text.specs.Names.{Bytes}
use Rattle.byte_text.specs.Numbers.{digits_value}
use Rattle.byte_text.specs.NumberLaws.{AreDigits, AreDigits-decimal, digits_back}

-- the number that some digits make behind others
abbrev value_from : ℕ → Bytes → ℕ
value_from n ds = fold (λ n b. 10 * n + (b - 48)) n ds

value-append : (n : ℕ) (a b : Bytes) → value_from n (a ++ b) ≡ value_from (value_from n a) b
value-append n [] b = refl
value-append n (x ∷ a) b = value-append (10 * n + (x - 48)) a b

grows : (n : ℕ) (ds : Bytes) → n ≤ value_from n ds
grows n [] = omega arith
grows n (b ∷ ds) = omega (arith, grows (10 * n + (b - 48)) ds)

pub one_more : (n b : ℕ) → 0 < n → 48 ≤ b → b < 58 → 10 * n + (b - 48) < 2 ^ 64 → decimal (10 * n + (b - 48)) ≡ decimal n ++ b ∷ []
one_more n b some low high small =
    let m = 10 * n + (b - 48) in
    let front : m / 10 ≡ n = omega (arith, low, high) in
    let last : 48 + m % 10 ≡ b = omega (arith, low, high) in
    decimal_step m (omega (arith, some)) small ∙ ap (λ k. decimal k ++ (48 + m % 10) ∷ []) front ∙ ap (λ c. decimal n ++ c ∷ []) last

digit_behind : (a rest : Bytes) (b : ℕ) → AreDigits (a ++ b ∷ rest) → (48 ≤ b) × (b < 58)
digit_behind [] rest b h = h.0
digit_behind (x ∷ a) rest b h = digit_behind a rest b h.1

-- what stands behind a number's digits in a longer number
pub record Longer (m n b : ℕ) : Type 0 where
  pub low : 48 ≤ b
  pub high : b < 58
  pub small : 10 * n + (b - 48) ≤ m

pub longer : (m n b : ℕ) (rest : Bytes) → m < 2 ^ 64 → n < 2 ^ 64 → decimal m ≡ decimal n ++ b ∷ rest → Longer m n b
longer m n b rest small_m small_n e =
    let digit = digit_behind (decimal n) rest b (subst AreDigits e (AreDigits-decimal m small_m)) in
    let value : m ≡ value_from (10 * n + (b - 48)) rest =
    sym (digits_back m small_m) ∙ ap digits_value e ∙ value-append 0 (decimal n) (b ∷ rest) ∙ ap (λ k. value_from k (b ∷ rest)) (digits_back n small_n) in
    record { low = digit.0; high = digit.1; small = omega (arith, value, grows (10 * n + (b - 48)) rest) }

-- a text that begins with a zero is that of 0
pub zero_alone : (n : ℕ) (ds : Bytes) → n < 2 ^ 64 → 48 ∷ ds ≡ decimal n → (n ≡ 0) × (ds ≡ [])
zero_alone zero ds small e = (refl, ap (drop 1) (e ∙ decimal_digit 0 (omega arith)))
zero_alone (suc n) ds small e =
    let head : get_or (decimal (suc n)) 0 0 ≡ 48 = ap (λ (t : Bytes). get_or t 0 0) (sym e) in
    absurd (omega (arith, head, first_decimal (suc n) (omega arith) small))

-- a text of digits alone
pub first_is : (n b : ℕ) (ds : Bytes) → n < 2 ^ 64 → b ∷ ds ≡ decimal n → (48 ≤ b) × (b < 58)
first_is n b ds small e = (subst AreDigits (sym e) (AreDigits-decimal n small)).0

pub digit_text : (b : ℕ) (ds : Bytes) → 48 ≤ b → b < 58 → b ∷ ds ≡ decimal (b - 48) ++ ds
digit_text b ds low high =
    let same : 48 + (b - 48) ≡ b = omega (arith, low) in
    ap (λ c. c ∷ ds) (sym same) ∙ ap (λ (t : Bytes). t ++ ds) (sym (decimal_digit (b - 48) (omega (arith, low, high))))

-- no number's text is empty
pub some_digit : (n : ℕ) (text : Bytes) → n < 2 ^ 64 → length text < 1 → text ≡ decimal n → ⊥
some_digit n text small none e =
    let lengths : length text ≡ length (decimal n) = ap length e in
    omega (arith, none, lengths, decimal_nonempty n small)

pub some_byte : (z : ℤ) (text : Bytes) → SFits w64 z → length text < 1 → text ≡ signed_decimal z → ⊥
some_byte (pos n) text fits none e = some_digit n text (omega (arith, fits.sfits)) none e
some_byte (negsuc n) text fits none e =
    let lengths : length text ≡ suc (length (decimal (suc n))) = ap length e in
    omega (arith, none, lengths)

split_at : (i : ℕ) (ds : Bytes) → i < length ds → ds ≡ take i ds ++ get_or ds i 0 ∷ drop (i + 1) ds
split_at i [] l = absurd (omega (arith, l))
split_at zero (d ∷ ds) l = refl
split_at (suc i) (d ∷ ds) l =
    let e : suc i + 1 ≡ suc (i + 1) = omega arith in
    rw e (ap (λ (t : Bytes). d ∷ t) (split_at i ds (omega (arith, l))))

-- the text of a number whose first digits were read
pub read_so_far : (m n k i : ℕ) (ds : Bytes) → i < length ds → decimal k ≡ decimal n ++ take i ds → decimal m ≡ decimal n ++ ds → decimal m ≡ decimal k ++ get_or ds i 0 ∷ drop (i + 1) ds
read_so_far m n k i ds l so_far e =
    e ∙ ap (λ (t : Bytes). decimal n ++ t) (split_at i ds l) ∙ sym (append_assoc (decimal n) (take i ds) (get_or ds i 0 ∷ drop (i + 1) ds)) ∙ ap (λ (t : Bytes). t ++ get_or ds i 0 ∷ drop (i + 1) ds) (sym so_far)

pub one_read : (n k j i : ℕ) (ds : Bytes) → i < length ds → decimal k ≡ decimal n ++ take i ds → decimal j ≡ decimal k ++ get_or ds i 0 ∷ [] → decimal j ≡ decimal n ++ take (i + 1) ds
one_read n k j i ds l so_far e =
    e ∙ ap (λ (t : Bytes). t ++ get_or ds i 0 ∷ []) so_far ∙ append_assoc (decimal n) (take i ds) (get_or ds i 0 ∷ []) ∙ ap (λ (t : Bytes). decimal n ++ t) (sym (one_taken i ds l))
  where
    one_taken : (i : ℕ) (ds : Bytes) → i < length ds → take (i + 1) ds ≡ take i ds ++ get_or ds i 0 ∷ []
    one_taken i [] l = absurd (omega (arith, l))
    one_taken zero (d ∷ ds) l = refl
    one_taken (suc i) (d ∷ ds) l =
        let e : suc i + 1 ≡ suc (i + 1) = omega arith in
        rw e (ap (λ (t : Bytes). d ∷ t) (one_taken i ds (omega (arith, l))))

pub all_read : (m n k i : ℕ) (ds : Bytes) → m < 2 ^ 64 → k < 2 ^ 64 → length ds ≤ i → decimal k ≡ decimal n ++ take i ds → decimal m ≡ decimal n ++ ds → k ≡ m
all_read m n k i ds small_m small_k l so_far e =
    decimal_injective k m small_k small_m (so_far ∙ ap (λ (t : Bytes). decimal n ++ t) (take_all i ds l) ∙ sym e)

-- the text of a number below zero, and of another
pub record Below (z : ℤ) (ds : Bytes) : Type 0 where
  pub less : ℕ
  pub is : z ≡ negsuc less
  pub small : less < 2 ^ 63
  pub text : ds ≡ decimal (suc less)

pub below : (z : ℤ) (ds : Bytes) → SFits w64 z → 45 ∷ ds ≡ signed_decimal z → Below z ds
below (pos n) ds fits e = absurd (omega (arith, (first_is n 45 ds (omega (arith, fits.sfits)) e).0))
below (negsuc n) ds fits e = record { less = n; is = refl; small = omega (arith, fits.sfits); text = cc e }

pub record Above (z : ℤ) (text : Bytes) : Type 0 where
  pub number : ℕ
  pub is : z ≡ pos number
  pub small : number < 2 ^ 63
  pub same : text ≡ decimal number

pub above : (z : ℤ) (b : ℕ) (ds : Bytes) → SFits w64 z → b ≢ 45 → b ∷ ds ≡ signed_decimal z → Above z (b ∷ ds)
above (pos n) b ds fits other e = record { number = n; is = refl; small = omega (arith, fits.sfits); same = e }
above (negsuc n) b ds fits other e = absurd (other (cc e))
