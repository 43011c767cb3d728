-- Words of at most 255 bytes, and how long lists of words are behind one another.
use Rattle.std.proofs.Common.{◌≡◌, ℕ, ℤ, pos, negsuc, suc, ◌+◌, ◌*◌, ◌^◌, ◌<◌, ◌≤◌, true, List, [], ◌∷◌, ◌++◌, length, arith, length-append}
use Rattle.std.specs.Prelude.{decimal, nat_le}
use Rattle.std.specs.Fmt.{signed_decimal}
use Rattle.std.specs.List.{AllByRecursion}
use Rattle.std.proofs.lemmas.Bool.{leb-true}
use Rattle.std.proofs.lemmas.Fmt.{length-decimal-le}
use mir.Syntax.{w64}
use mir.Val.{SFits as FitsSigned}
use Rattle.byte_text.specs.Names.{Bytes, is_name}
use Rattle.byte_text.specs.Requests.{AreShort, total, max_word}
use Rattle.ordered_lists.specs.Reading.{both_of, each-append}
use Rattle.cmd_words.specs.ShortRequests.{total_short, each_short}

abbrev pub IsSmall : Bytes → Type 0
IsSmall w = length w ≤ 255

abbrev pub AreSmall : List Bytes → Type 0
AreSmall words = AllByRecursion IsSmall words

-- a word that is written out
pub small : (w : Bytes) → nat_le (length w) 255 ≡ true → IsSmall w
small w e = leb-true (length w) 255 e

pub small_name : (w : Bytes) → is_name w ≡ true → IsSmall w
small_name w e =
    let h = both_of _ _ e in
    let k = both_of _ _ h.0 in
    small w k.1

pub small_decimal : (n : ℕ) → n < 2 ^ 64 → IsSmall (decimal n)
small_decimal n lt = let l = length-decimal-le 20 n (omega arith) (omega (arith, lt)) (omega (arith, lt)) in omega (arith, l)

pub small_signed : (z : ℤ) → FitsSigned w64 z → IsSmall (signed_decimal z)
small_signed (pos n) fits = let limit = fits.sfits in let lt : n < 2 ^ 64 = grind arith in small_decimal n lt
small_signed (negsuc n) fits =
    let limit = fits.sfits in
    let lt : suc n < 2 ^ 64 = grind arith in
    let l = length-decimal-le 20 (suc n) (omega arith) (omega (arith, lt)) (omega (arith, lt)) in
    omega (arith, l)

-- lists of words behind one another

pub small_append : (xs ys : List Bytes) → AreSmall xs → AreSmall ys → AreSmall (xs ++ ys)
small_append = each-append IsSmall

pub total_append : (xs ys : List Bytes) → total (xs ++ ys) ≡ total xs + total ys
total_append [] ys = omega arith
total_append (x ∷ xs) ys = let ih = total_append xs ys in omega (arith, ih)

pub short_append : (xs ys : List Bytes) → AreShort xs → AreShort ys → AreShort (xs ++ ys)
short_append = each-append (λ w. length w ≤ max_word)

pub short_back : (xs ys : List Bytes) → AreShort (xs ++ ys) → AreShort ys
short_back [] ys s = s
short_back (x ∷ xs) ys s = short_back xs ys s.1

-- words of which one may be as long as a word can be, and the others small
abbrev pub AreLight : List Bytes → Type 0
AreLight words = AreShort words × (total words ≤ 255 * length words + max_word)

pub light_of : (words : List Bytes) → AreSmall words → AreLight words
light_of words s = let t = total_short words s in (each_short words s, omega (arith, t))

pub light_text : (called text : Bytes) → IsSmall called → length text ≤ max_word → AreLight (called ∷ text ∷ [])
light_text called text s short = ((omega (arith, s), (short, tt)), omega (arith, s, short))

pub light_append : (xs ys : List Bytes) → AreSmall xs → AreLight ys → AreLight (xs ++ ys)
light_append xs ys s light =
    let t = total_append xs ys in
    let m = total_short xs s in
    let n = length-append xs ys in
    let l = light.1 in
    (short_append xs ys (each_short xs s) light.0, omega (arith, t, m, n, l))
