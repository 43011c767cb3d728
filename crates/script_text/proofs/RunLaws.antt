-- Bytes that are escaped in runs: those up to the first that does not stand as it is, and that one.
use Rattle.std.proofs.Common.{◌≡◌, ℕ, zero, suc, ◌+◌, ◌<◌, ◌≤◌, Bool, true, false, not, [], ◌∷◌, ◌++◌, length, get_or, take, drop, Some, None, refl, sym, ◌∙◌, arith, if◌then◌else◌, append_assoc}
use Rattle.std.specs.List.{position, position_or_len}
use Rattle.std.specs.Prelude.{nat_lt}
use Rattle.std.proofs.lemmas.Bool.{ltb-false}
use Rattle.std.proofs.lemmas.List.Sums.{fails_before_first}
use Rattle.std.proofs.lemmas.List.Quantifiers.{position-Some}
use Rattle.percent_encoding.specs.Percent.{percent_encode_byte}
use Rattle.byte_text.specs.Names.{Bytes}
use Rattle.script_text.specs.Escaped.{is_kept, escaped}

-- all bytes before this place stand as they are
abbrev pub AreKept : Bytes → ℕ → Type 0
AreKept bytes at = (k : ℕ) → k < at → not (is_kept (get_or bytes k 0)) ≡ false

not_true : (t : Bool) → not t ≡ true → t ≡ false
not_true true e = sym e
not_true false e = refl

not_false : (t : Bool) → not t ≡ false → t ≡ true
not_false true e = refl
not_false false e = sym e

split : (bytes : Bytes) (at : ℕ) → at < length bytes → AreKept bytes at → not (is_kept (get_or bytes at 0)) ≡ true
    → escaped bytes ≡ take at bytes ++ (percent_encode_byte (get_or bytes at 0) ++ escaped (drop (at + 1) bytes))
split [] at l h e = absurd (omega (arith, l))
split (b ∷ bytes) zero l h e = rw (not_true (is_kept b) e) refl
split (b ∷ bytes) (suc at) l h e =
    let rest = split bytes at (omega (arith, l)) (λ k s. h (suc k) (omega (arith, s))) e in
    let next : suc at + 1 ≡ suc (at + 1) = omega arith in
    rw (not_false (is_kept b) (h 0 (omega arith)), next, rest) refl

-- the first byte that does not stand as it is
pub run : (bytes : Bytes) (at : ℕ) → position (λ b. not (is_kept b)) bytes ≡ Some at
    → escaped bytes ≡ take at bytes ++ (percent_encode_byte (get_or bytes at 0) ++ escaped (drop (at + 1) bytes))
run bytes at e = let h = position-Some (λ b. not (is_kept b)) bytes at 0 e in split bytes at h.0 h.2 h.1

-- two pieces that are appended, and what they leave
pub two_pieces : (old mid new a e rest all : Bytes) → mid ≡ old ++ a → new ≡ mid ++ e → all ≡ a ++ (e ++ rest) → new ++ rest ≡ old ++ all
two_pieces old mid new a e rest all p q r = rw (q, p, r) (append_assoc (old ++ a) e rest ∙ append_assoc old a (e ++ rest))

none_by : (n len : ℕ) (t : Bool) → nat_lt n len ≡ t → (if t then Some n else None) ≡ None → len ≤ n
none_by n len true l e = absurd (cc e)
none_by n len false l e = ltb-false n len l

all_kept : (bytes : Bytes) → AreKept bytes (length bytes) → escaped bytes ≡ bytes
all_kept [] h = refl
all_kept (b ∷ bytes) h =
    let rest : escaped bytes ≡ bytes = all_kept bytes (λ k l. h (suc k) (omega (arith, l))) in
    rw (not_false (is_kept b) (h 0 (omega arith)), rest) refl

-- no such byte
pub no_run : (bytes : Bytes) → position (λ b. not (is_kept b)) bytes ≡ None → escaped bytes ≡ bytes
no_run bytes e =
    let first = position_or_len (λ b. not (is_kept b)) bytes in
    let all : length bytes ≤ first = none_by first (length bytes) (nat_lt first (length bytes)) refl e in
    all_kept bytes (λ k l. fails_before_first (λ b. not (is_kept b)) bytes k 0 (omega (arith, l, all)))
