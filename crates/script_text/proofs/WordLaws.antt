-- The first word of a line ends at its first space.
use Rattle.std.proofs.Common.{◌≡◌, ℕ, zero, suc, ◌+◌, ◌<◌, ◌≤◌, Bool, true, false, ◌==◌, List, [], ◌∷◌, length, get_or, take, drop, Option, Some, None, refl, sym, ap, ◌∙◌, arith, if◌then◌else◌, ◌-◌, take_all, length-drop}
use Rattle.byte_text.specs.Names.{Bytes}
use Rattle.script_text.specs.Lines.{line_of_words}
use Rattle.script_text.specs.Words.{words, with_byte, word_and_rest}
use Rattle.std.specs.List.{position}
use Rattle.std.specs.Prelude.{nat_lt}
use Rattle.std.specs.Borrow.{Bor}
use Rattle.std.specs.List.{position_or_len}
use Rattle.std.proofs.lemmas.Bool.{ltb-false}
use Rattle.std.proofs.lemmas.List.Quantifiers.{position-Some}
use Rattle.std.proofs.lemmas.List.Sums.{fails_before_first}

-- no space stands before this place
abbrev pub NoSpace : Bytes → ℕ → Type 0
NoSpace bytes at = (k : ℕ) → k < at → (get_or bytes k 0 == 32) ≡ false

pub whole : (bytes : Bytes) → NoSpace bytes (length bytes) → words bytes ≡ bytes ∷ []
whole [] h = refl
whole (b ∷ bytes) h =
    let rest : words bytes ≡ bytes ∷ [] = whole bytes (λ k l. h (suc k) (omega (arith, l))) in
    let no_space : (b == 32) ≡ false = h 0 (omega arith) in
    rw (no_space, rest) refl

pub split : (bytes : Bytes) (at : ℕ) → at < length bytes → NoSpace bytes at → (get_or bytes at 0 == 32) ≡ true → words bytes ≡ take at bytes ∷ words (drop (at + 1) bytes)
split [] at l h e = absurd (omega (arith, l))
split (b ∷ bytes) zero l h e = rw e refl
split (b ∷ bytes) (suc at) l h e =
    let rest : words bytes ≡ take at bytes ∷ words (drop (at + 1) bytes) = split bytes at (omega (arith, l)) (λ k s. h (suc k) (omega (arith, s))) e in
    let no_space : (b == 32) ≡ false = h 0 (omega arith) in
    let next : suc at + 1 ≡ suc (at + 1) = omega arith in
    rw (no_space, next, rest) refl

none_by : (n : ℕ) (len : ℕ) (t : Bool) → nat_lt n len ≡ t → None ≡ (if t then Some n else None) → len ≤ n
none_by n len true l e = absurd (cc e)
none_by n len false l e = ltb-false n len l

pub none_found : (bytes : Bytes) → None ≡ position (λ b. b == 32) bytes → words bytes ≡ bytes ∷ []
none_found bytes e =
    let all : length bytes ≤ position_or_len (λ b. b == 32) bytes = none_by (position_or_len (λ b. b == 32) bytes) (length bytes) (nat_lt (position_or_len (λ b. b == 32) bytes) (length bytes)) refl e in
    whole bytes (λ k l. fails_before_first (λ b. b == 32) bytes k 0 (omega (arith, l, all)))

pub one_found : (bytes : Bytes) (at : ℕ) → Some at ≡ position (λ b. b == 32) bytes → words bytes ≡ take at bytes ∷ words (take (length bytes - (at + 1)) (drop (at + 1) bytes))
one_found bytes at e =
    let h = position-Some (λ b. b == 32) bytes at 0 (sym e) in
    let all : take (length bytes - (at + 1)) (drop (at + 1) bytes) ≡ drop (at + 1) bytes = take_all (length bytes - (at + 1)) (drop (at + 1) bytes) (omega (arith, length-drop (at + 1) bytes)) in
    split bytes at h.0 h.2 h.1 ∙ ap (λ x. take at bytes ∷ words x) (sym all)

-- there is a word
by_space : (b : ℕ) (t : Bool) (ws : List Bytes) → (w : Bytes) × (us : List Bytes) × ((if t then [] ∷ ws else with_byte b ws) ≡ w ∷ us)
by_space b true ws = ([], ws, refl)
by_space b false [] = (b ∷ [], [], refl)
by_space b false (w ∷ ws) = (b ∷ w, ws, refl)

some_word : (bytes : Bytes) → (w : Bytes) × (ws : List Bytes) × (words bytes ≡ w ∷ ws)
some_word [] = ([], [], refl)
some_word (b ∷ bytes) = by_space b (b == 32) (words bytes)

pub five_words : (name number at bytes rest : Bytes) → line_of_words (name ∷ number ∷ at ∷ bytes ∷ words rest) ≡ None
five_words name number at bytes rest = let w = some_word rest in ap (λ ws. line_of_words (name ∷ number ∷ at ∷ bytes ∷ ws)) w.2

step : (bytes word : Bytes) (rest : Option (Bor Bytes)) (r : Bor Bytes) → words bytes ≡ word_and_rest word rest → rest ≡ Some r → words bytes ≡ word ∷ words r.now
step bytes word rest r e f = e ∙ ap (word_and_rest word) f

-- four words and more are no line
pub four_and_more : (all n1 n2 n3 n4 : Bytes) (o1 o2 o3 o4 : Option (Bor Bytes)) (r1 r2 r3 r4 : Bor Bytes)
    → words all ≡ word_and_rest n1 o1 → o1 ≡ Some r1 → words r1.now ≡ word_and_rest n2 o2 → o2 ≡ Some r2 → words r2.now ≡ word_and_rest n3 o3 → o3 ≡ Some r3 → words r3.now ≡ word_and_rest n4 o4 → o4 ≡ Some r4
    → line_of_words (words all) ≡ None
four_and_more all n1 n2 n3 n4 o1 o2 o3 o4 r1 r2 r3 r4 e1 f1 e2 f2 e3 f3 e4 f4 =
    let s1 = step all n1 o1 r1 e1 f1 in
    let s2 = step r1.now n2 o2 r2 e2 f2 in
    let s3 = step r2.now n3 o3 r3 e3 f3 in
    let s4 = step r3.now n4 o4 r4 e4 f4 in
    ap line_of_words (s1 ∙ ap (λ ws. n1 ∷ ws) (s2 ∙ ap (λ ws. n2 ∷ ws) (s3 ∙ ap (λ ws. n3 ∷ ws) s4))) ∙ five_words n1 n2 n3 n4 r4.now
