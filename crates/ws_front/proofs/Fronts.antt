-- The front of some bytes up to their first CR or LF.
use Rattle.std.proofs.Common.{◌≡◌, ◌≢◌, ℕ, zero, suc, ◌<◌, false, [], ◌∷◌, ◌++◌, length, get_or, take, drop, Some, refl, sym, ap, ◌∙◌, arith}
use Rattle.std.proofs.Common.{ne_eqb, take-append-drop}
use Rattle.std.specs.Prelude.{◌==◌}
use Rattle.std.specs.List.{position, position_or_len}
use Rattle.std.proofs.lemmas.Bool.{le-leb}
use Rattle.std.proofs.lemmas.List.Quantifiers.{position-Some}
use Rattle.std.proofs.lemmas.List.{drop_at}
use Rattle.byte_text.specs.Names.{Bytes}
use Rattle.byte_text.specs.Lines.{IsOneLine}
use Rattle.ws_front.specs.Pieces.{is_end}

no_end : (b : ℕ) → is_end b ≡ false → (b ≢ 13) × (b ≢ 10)
no_end b e = ((λ is. absurd (cc (e, ap is_end is))), (λ is. absurd (cc (e, ap is_end is))))

is_no_end : (b : ℕ) → (b ≢ 13) × (b ≢ 10) → is_end b ≡ false
is_no_end b n = let x : (b == 13) ≡ false = ne_eqb b 13 n.0 in let y : (b == 10) ≡ false = ne_eqb b 10 n.1 in rw (x, y) refl

-- what stands before a place where none stands before is of one line
one_line : (bytes : Bytes) (at : ℕ) → at < length bytes → ((k : ℕ) → k < at → is_end (get_or bytes k 0) ≡ false) → IsOneLine (take at bytes)
one_line [] at l h = absurd (omega (arith, l))
one_line (b ∷ bytes) zero l h = tt
one_line (b ∷ bytes) (suc at) l h =
    (no_end b (h 0 (omega arith)), one_line bytes at (omega (arith, l)) (λ k s. h (suc k) (omega (arith, s))))

pub front_line : (bytes : Bytes) (at : ℕ) → position is_end bytes ≡ Some at → IsOneLine (take at bytes)
front_line bytes at e = let h = position-Some is_end bytes at 0 e in one_line bytes at h.0 h.2

place : (text rest : Bytes) → IsOneLine text → position_or_len is_end (text ++ 13 ∷ rest) ≡ length text
place [] rest o = refl
place (b ∷ text) rest o = rw (is_no_end b o.0, place text rest o.1) (omega arith)

within : (text rest : Bytes) → length text < length (text ++ 13 ∷ rest)
within [] rest = omega arith
within (b ∷ text) rest = let l = within text rest in omega (arith, l)

-- where a line's text stands at the front, its end is the first
pub found_end : (text rest : Bytes) → IsOneLine text → position is_end (text ++ 13 ∷ rest) ≡ Some (length text)
found_end text rest o = rw (place text rest o, le-leb (suc (length text)) (length (text ++ 13 ∷ rest)) (within text rest)) refl

-- the two parts of a split there
pub split_line : (bytes text end behind : Bytes) (at : ℕ) → Some at ≡ position is_end bytes → text ≡ take at bytes → end ≡ drop at bytes
    → end ≡ 13 ∷ 10 ∷ behind → IsOneLine text × (bytes ≡ text ++ 13 ∷ 10 ∷ behind)
split_line bytes text end behind at is front back ends = (
  rw front (front_line bytes at (sym is)),
  sym (take-append-drop at bytes) ∙ (λ i. sym front i ++ (sym back ∙ ends) i),
)

pub line_split : (bytes end text behind : Bytes) (at : ℕ) → Some at ≡ position is_end bytes → end ≡ drop at bytes
    → IsOneLine text → bytes ≡ text ++ 13 ∷ 10 ∷ behind → end ≡ 13 ∷ 10 ∷ behind
line_split bytes end text behind at is back one e =
    let there : Some at ≡ Some (length text) = is ∙ ap (position is_end) e ∙ found_end text (10 ∷ behind) one in
    let same : length text ≡ at = cc there in
    back ∙ ap (drop at) e ∙ drop_at text (13 ∷ 10 ∷ behind) at same
