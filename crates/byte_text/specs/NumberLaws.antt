-- Laws of the texts of numbers: their bytes, and the number that is read back.
use Rattle.std.proofs.Common.{arith, ◌≡◌, ℕ, suc, ◌+◌, ◌-◌, ◌*◌, ◌%◌, ℤ, pos, negsuc, ◌^◌, ◌<◌, ◌≤◌, [], ◌∷◌, ◌++◌, decimal, ◌∙◌, ap, refl, w64, fold}
use Rattle.std.proofs.Common.{ne_eqb, Bool}
use Rattle.std.specs.Prelude.{neg_ℤ, if◌then◌else◌}
use Rattle.std.specs.Fmt.{signed_decimal}
use Rattle.std.specs.List.{AllByRecursion}
use Rattle.std.proofs.lemmas.Fmt.{decimal_by_steps}
use mir.Val.{SFits as FitsSigned}
use Rattle.byte_text.specs.Names.{Bytes}
use Rattle.byte_text.specs.Numbers.{digits_value, signed_value}

-- decimal digits
abbrev pub AreDigits : Bytes → Type 0
AreDigits ds = AllByRecursion (λ b. (48 ≤ b) × (b < 58)) ds

pub AreDigits-append : (a b : Bytes) → AreDigits a → AreDigits b → AreDigits (a ++ b)
AreDigits-append [] b p q = q
AreDigits-append (x ∷ a) b p q = (p.0, AreDigits-append a b p.1 q)

pub AreDigits-decimal : (n : ℕ) → n < 2 ^ 64 → AreDigits (decimal n)
AreDigits-decimal = decimal_by_steps (λ n ds. AreDigits ds) (λ n l. ((grind arith, grind arith), tt))
    (λ n ds l h. AreDigits-append ds ((48 + n % 10) ∷ []) h ((grind arith, grind arith), tt))

digits-append : (n : ℕ) (ds : Bytes) (d : ℕ) → fold (λ n b. 10 * n + (b - 48)) n (ds ++ d ∷ []) ≡ 10 * fold (λ n b. 10 * n + (b - 48)) n ds + (d - 48)
digits-append n [] d = refl
digits-append n (b ∷ ds) d = digits-append (10 * n + (b - 48)) ds d

-- the value of a number's digits
pub digits_back : (n : ℕ) → n < 2 ^ 64 → digits_value (decimal n) ≡ n
digits_back = decimal_by_steps (λ n ds. digits_value ds ≡ n) (λ n l. grind arith) (λ n ds l h. digits-append 0 ds (48 + n % 10) ∙ grind arith)

unsigned : (ds : Bytes) → AreDigits ds → signed_value ds ≡ pos (digits_value ds)
unsigned [] d = refl
unsigned (b ∷ ds) d = ap (λ (t : Bool). if t then neg_ℤ (pos (digits_value ds)) else pos (digits_value (b ∷ ds))) (ne_eqb b 45 (λ e. grind (arith)))

-- the value of a whole number's text
pub signed_back : (z : ℤ) → FitsSigned w64 z → signed_value (signed_decimal z) ≡ z
signed_back (pos n) fits =
    let limit = fits.sfits in
    let small : n < 2 ^ 64 = grind arith in
    unsigned (decimal n) (AreDigits-decimal n small) ∙ ap pos (digits_back n small)
signed_back (negsuc n) fits =
    let limit = fits.sfits in
    let small : suc n < 2 ^ 64 = grind arith in
    ap (λ m. neg_ℤ (pos m)) (digits_back (suc n) small)
