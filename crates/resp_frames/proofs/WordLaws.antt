-- Reading the words of a request's text.
use Rattle.std.proofs.Common.{◌≡◌, ◌≢◌, ℕ, zero, suc, ◌+◌, ◌-◌, ◌<◌, ◌≤◌, ◌^◌, List, [], ◌∷◌, ◌++◌, length, decimal, flat_map, get_or, take, drop, refl, sym, ap, subst, ◌∙◌, append_assoc, length-append, arith, take_at, drop_at, take_all}
use Rattle.byte_text.specs.Lines.{line, bulk_text}
use Rattle.byte_text.specs.Requests.{AreShort, request_text, IsRequest, FitsRequest, max_word, total}
use Rattle.byte_text.specs.LineLaws.{NoReturn, NoReturn-decimal, line-append, bulk_text-append}

total-append : (v w : List (List ℕ)) → total (v ++ w) ≡ total v + total w
total-append [] w = omega arith
total-append (x ∷ v) w = omega (arith, total-append v w)

-- no CR before this place
abbrev pub NoneBefore : List ℕ → ℕ → Type 0
NoneBefore bytes at = (text rest : List ℕ) → NoReturn text → bytes ≡ text ++ 13 ∷ rest → at ≤ length text

past : (text rest : List ℕ) (at : ℕ) → NoReturn text → get_or (text ++ 13 ∷ rest) at 0 ≡ 13 → length text ≤ at
past [] rest at h e = omega arith
past (b ∷ text) rest zero h e = absurd (h.0 e)
past (b ∷ text) rest (suc at) h e = omega (arith, past text rest at h.1 e)

inside : (text rest : List ℕ) (at : ℕ) → at ≤ length text → get_or (text ++ 13 ∷ rest) at 0 ≢ 13 → at < length text
inside [] rest zero l h = absurd (h refl)
inside [] rest (suc at) l h = absurd (omega (arith, l))
inside (b ∷ text) rest zero l h = omega arith
inside (b ∷ text) rest (suc at) l h = omega (arith, inside text rest at (omega (arith, l)) h)

pub at_return : (bytes : List ℕ) (at : ℕ) → NoneBefore bytes at → get_or bytes at 0 ≡ 13 → (text rest : List ℕ) → NoReturn text → bytes ≡ text ++ 13 ∷ rest → at ≡ length text
at_return bytes at h e text rest plain is =
    omega (arith, h text rest plain is, past text rest at plain (subst (λ (x : List ℕ). get_or x at 0 ≡ 13) is e))

pub before_return : (bytes : List ℕ) (at : ℕ) → NoneBefore bytes at → get_or bytes at 0 ≢ 13 → NoneBefore bytes (at + 1)
before_return bytes at h e text rest plain is =
    omega (arith, inside text rest at (h text rest plain is) (subst (λ (x : List ℕ). get_or x at 0 ≢ 13) is e))

pub at_end : (bytes : List ℕ) (at : ℕ) → NoneBefore bytes at → length bytes ≤ at → (text rest : List ℕ) → NoReturn text → bytes ≡ text ++ 13 ∷ rest → at ≡ length text
at_end bytes at h l text rest plain is =
    let lengths : length bytes ≡ length text + length (13 ∷ rest) = ap length is ∙ length-append text (13 ∷ rest) in
    absurd (omega (arith, lengths, h text rest plain is, l))

-- a request of which some words were read
pub record Going (text : List ℕ) (read : List (List ℕ)) (rest : List ℕ) (left : ℕ) : Type 0 where
  pub words : List (List ℕ)
  pub others : List (List ℕ)
  pub is : IsRequest words
  pub text_is : text ≡ request_text words
  pub parts : words ≡ read ++ others
  pub rest_is : rest ≡ flat_map bulk_text others
  pub count : length others ≡ left

pub number_read : (bytes tail front back behind : List ℕ) (at num : ℕ) → tail ≡ drop 1 bytes
    → ((text rest : List ℕ) → NoReturn text → tail ≡ text ++ 13 ∷ rest → at ≡ length text)
    → front ≡ take at tail → back ≡ drop at tail
    → ((n : ℕ) → n < 2 ^ 32 → front ≡ decimal n → num ≡ n)
    → ((a b : ℕ) (rest : List ℕ) → back ≡ a ∷ b ∷ rest → behind ≡ rest)
    → (mark n : ℕ) (rest : List ℕ) → n < 2 ^ 32 → bytes ≡ line mark (decimal n) ++ rest → (num ≡ n) × (behind ≡ rest)
number_read bytes tail front back behind at num tail_is found front_is back_is number after mark n rest small e =
    let tail' : tail ≡ decimal n ++ 13 ∷ 10 ∷ rest = tail_is ∙ ap (drop 1) (e ∙ line-append mark (decimal n) rest) in
    let place : at ≡ length (decimal n) = found (decimal n) (10 ∷ rest) (NoReturn-decimal n (omega (arith, small))) tail' in
    let digits : front ≡ decimal n = front_is ∙ ap (take at) tail' ∙ take_at (decimal n) (13 ∷ 10 ∷ rest) at (sym place) in
    let others : back ≡ 13 ∷ 10 ∷ rest = back_is ∙ ap (drop at) tail' ∙ drop_at (decimal n) (13 ∷ 10 ∷ rest) at (sym place) in
    (number n small digits, after 13 10 rest others)

pub all_behind : (bytes : List ℕ) → take (length bytes - 1) (drop 1 bytes) ≡ drop 1 bytes
all_behind [] = refl
all_behind (b ∷ bytes) = take_all (length (b ∷ bytes) - 1) bytes (omega arith)

pub word_read : (bytes behind front back after : List ℕ) (len : ℕ)
    → ((mark n : ℕ) (rest : List ℕ) → n < 2 ^ 32 → bytes ≡ line mark (decimal n) ++ rest → (len ≡ n) × (behind ≡ rest))
    → front ≡ take len behind → back ≡ drop len behind
    → ((a b : ℕ) (rest : List ℕ) → back ≡ a ∷ b ∷ rest → after ≡ rest)
    → (word rest : List ℕ) → length word ≤ max_word → bytes ≡ bulk_text word ++ rest → (front ≡ word) × (after ≡ rest)
word_read bytes behind front back after len number front_is back_is ends word rest short e =
    let h = number 36 (length word) (word ++ 13 ∷ 10 ∷ rest) (omega (arith, short)) (e ∙ bulk_text-append word rest) in
    let whole : front ≡ word = front_is ∙ ap (take len) h.1 ∙ take_at word (13 ∷ 10 ∷ rest) len (sym h.0) in
    let others : back ≡ 13 ∷ 10 ∷ rest = back_is ∙ ap (drop len) h.1 ∙ drop_at word (13 ∷ 10 ∷ rest) len (sym h.0) in
    (whole, ends 13 10 rest others)

-- what the reader of a word says
abbrev pub ReadsWord : List ℕ → List ℕ → List ℕ → Type 0
ReadsWord bytes found behind = (word rest : List ℕ) → length word ≤ max_word → bytes ≡ bulk_text word ++ rest → (found ≡ word) × (behind ≡ rest)

AreShort-at : (v : List (List ℕ)) (u : List ℕ) (w : List (List ℕ)) → AreShort (v ++ u ∷ w) → AreShort (v ++ u ∷ []) × (length u ≤ max_word)
AreShort-at [] u w p = ((p.0, tt), p.0)
AreShort-at (x ∷ v) u w p = let h = AreShort-at v u w p.1 in ((p.0, h.0), h.1)

-- a request of which one more word was read
record Went (text : List ℕ) (read : List (List ℕ)) (word behind : List ℕ) (left : ℕ) : Type 0 where
  pub fits : FitsRequest (read ++ word ∷ [])
  pub going : Going text (read ++ word ∷ []) behind (left - 1)

went_on : (text : List ℕ) (read : List (List ℕ)) (rest word behind : List ℕ) (left : ℕ) (g : Going text read rest left) (others : List (List ℕ)) → g.others ≡ others → 0 < left → ReadsWord rest word behind → Went text read word behind left
went_on text read rest word behind left g [] e some reads = absurd (omega (arith, g.count, ap length e, some))
went_on text read rest word behind left g (u ∷ us) e some reads =
    let parts : g.words ≡ read ++ u ∷ us = g.parts ∙ ap (λ (w : List (List ℕ)). read ++ w) e in
    let short = AreShort-at read u us (subst AreShort parts g.is.fits.short) in
    let bytes : rest ≡ bulk_text u ++ flat_map bulk_text us = g.rest_is ∙ ap (flat_map bulk_text) e in
    let found = reads u (flat_map bulk_text us) short.1 bytes in
    let sums : total g.words ≡ total read + (length u + total us) = ap total parts ∙ total-append read (u ∷ us) in
    let sums' : total (read ++ u ∷ []) ≡ total read + (length u + 0) = total-append read (u ∷ []) in
    let counts : length g.words ≡ length read + suc (length us) = ap length parts ∙ length-append read (u ∷ us) in
    let counts' : length (read ++ u ∷ []) ≡ length read + 1 = length-append read (u ∷ []) in
    let fits : FitsRequest (read ++ u ∷ []) = record { few = omega (arith, counts, counts', g.is.fits.few); short = short.0; small = omega (arith, sums, sums', g.is.fits.small) } in
    let regrouped : g.words ≡ (read ++ u ∷ []) ++ us = parts ∙ sym (append_assoc read (u ∷ []) us) in
    let going : Going text (read ++ u ∷ []) behind (left - 1) = record { words = g.words; others = us; is = g.is; text_is = g.text_is; parts = regrouped; rest_is = found.1; count = omega (arith, g.count, ap length e) } in
    subst (λ (w : List ℕ). Went text read w behind left) (sym found.0) (record { fits = fits; going = going })

pub word_fits : (text : List ℕ) (read : List (List ℕ)) (rest word behind : List ℕ) (left : ℕ) → Going text read rest left → 0 < left → ReadsWord rest word behind → FitsRequest (read ++ word ∷ [])
word_fits text read rest word behind left g some reads = (went_on text read rest word behind left g g.others refl some reads).fits

pub goes_on : (text : List ℕ) (read new : List (List ℕ)) (rest word behind : List ℕ) (left after : ℕ) → Going text read rest left → 0 < left → ReadsWord rest word behind → new ≡ read ++ word ∷ [] → after ≡ left - 1 → Going text new behind after
goes_on text read new rest word behind left after g some reads e f =
    subst (λ (r : List (List ℕ)). Going text r behind after) (sym e) (subst (λ (k : ℕ). Going text (read ++ word ∷ []) behind k) (sym f) (went_on text read rest word behind left g g.others refl some reads).going)
