-- Laws of lines: no number has a line's end in it, and what stands behind a line.
use Rattle.std.proofs.Common.{◌≡◌, ◌≢◌, ℕ, ◌+◌, ◌%◌, ◌<◌, ◌^◌, [], ◌∷◌, ◌++◌, length, decimal, ap, ◌∙◌, append_assoc, arith}
use Rattle.std.specs.List.{AllByRecursion}
use Rattle.std.proofs.lemmas.Fmt.{decimal_by_steps}
use Rattle.byte_text.specs.Names.{Bytes}
use Rattle.byte_text.specs.Lines.{line, bulk_text}

-- no CR
abbrev pub NoReturn : Bytes → Type 0
NoReturn text = AllByRecursion (λ b. b ≢ 13) text

pub NoReturn-append : (a b : Bytes) → NoReturn a → NoReturn b → NoReturn (a ++ b)
NoReturn-append [] b p q = q
NoReturn-append (x ∷ a) b p q = (p.0, NoReturn-append a b p.1 q)

pub NoReturn-decimal : (n : ℕ) → n < 2 ^ 64 → NoReturn (decimal n)
NoReturn-decimal = decimal_by_steps (λ n ds. NoReturn ds) (λ n l. ((λ e. grind arith), tt))
    (λ n ds l h. NoReturn-append ds ((48 + n % 10) ∷ []) h ((λ e. grind arith), tt))

-- what stands behind a line, and behind a bulk string
pub line-append : (mark : ℕ) (text x : Bytes) → line mark text ++ x ≡ mark ∷ (text ++ 13 ∷ 10 ∷ x)
line-append mark text x = ap (λ (t : Bytes). mark ∷ t) (append_assoc text (13 ∷ 10 ∷ []) x)

pub bulk_text-append : (w x : Bytes) → bulk_text w ++ x ≡ line 36 (decimal (length w)) ++ (w ++ 13 ∷ 10 ∷ x)
bulk_text-append w x = append_assoc (line 36 (decimal (length w))) (w ++ 13 ∷ 10 ∷ []) x
    ∙ ap (λ (t : Bytes). line 36 (decimal (length w)) ++ t) (append_assoc w (13 ∷ 10 ∷ []) x)
