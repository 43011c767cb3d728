-- No frame's text begins another's.
use Rattle.std.proofs.Common.{◌≡◌, ℕ, zero, suc, ◌+◌, ◌<◌, ◌^◌, List, [], ◌∷◌, ◌++◌, length, decimal, refl, sym, ap, subst, ◌∙◌, append_assoc, arith}
use Rattle.std.specs.List.{AllByRecursion}
use Rattle.std.specs.Fmt.{signed_decimal}
use Rattle.std.proofs.lemmas.Fmt.{decimal_injective}
use Rattle.byte_text.specs.Lines.{line}
use Rattle.byte_text.specs.Replies.{piece_text, frame_text, inside, AreReplies, IsClean, IsInRange}
use Rattle.byte_text.specs.declared.replies.Piece.{Piece}
use Rattle.byte_text.specs.declared.replies.Piece.TheVariants as piece
use Rattle.byte_text.specs.LineLaws.{NoReturn, NoReturn-decimal, bulk_text-append}
use Rattle.byte_text.proofs.LineFronts.{NoReturn-one_line, NoReturn-signed, same_line, same_length, signed_is, no_sign}

abbrev mark : Piece → ℕ
mark (piece.Status text) = 43
mark (piece.Fault text) = 45
mark (piece.Number n) = 58
mark (piece.Bulk bytes) = 36
mark piece.NoBulk = 36
mark piece.NoList = 42
mark (piece.List n) = 42

abbrev text_of : Piece → List ℕ
text_of (piece.Status text) = text
text_of (piece.Fault text) = text
text_of (piece.Number n) = signed_decimal n
text_of (piece.Bulk bytes) = decimal (length bytes)
text_of piece.NoBulk = 45 ∷ 49 ∷ []
text_of piece.NoList = 45 ∷ 49 ∷ []
text_of (piece.List n) = decimal n

abbrev behind : Piece → List ℕ → List ℕ
behind (piece.Status text) x = x
behind (piece.Fault text) x = x
behind (piece.Number n) x = x
behind (piece.Bulk bytes) x = bytes ++ 13 ∷ 10 ∷ x
behind piece.NoBulk x = x
behind piece.NoList x = x
behind (piece.List n) x = x

parts : (p : Piece) (x : List ℕ) → piece_text p ++ x ≡ line (mark p) (text_of p) ++ behind p x
parts (piece.Status text) x = refl
parts (piece.Fault text) x = refl
parts (piece.Number n) x = refl
parts (piece.Bulk bytes) x = bulk_text-append bytes x
parts piece.NoBulk x = refl
parts piece.NoList x = refl
parts (piece.List n) x = refl

minus_one : NoReturn (45 ∷ 49 ∷ [])
minus_one = ((λ e. omega (arith, e)), ((λ e. omega (arith, e)), tt))

no_return : (p : Piece) → IsClean p → IsInRange p → NoReturn (text_of p)
no_return (piece.Status text) c r = NoReturn-one_line text c
no_return (piece.Fault text) c r = NoReturn-one_line text c
no_return (piece.Number n) c r = NoReturn-signed n r
no_return (piece.Bulk bytes) c r = NoReturn-decimal (length bytes) r
no_return piece.NoBulk c r = minus_one
no_return piece.NoList c r = minus_one
no_return (piece.List n) c r = NoReturn-decimal n (omega (arith, r))

no_minus : (n : ℕ) → n < 2 ^ 64 → decimal n ≡ 45 ∷ 49 ∷ [] → ⊥
no_minus n small e = no_sign n small (49 ∷ []) e

-- what two pieces that begin one text have in common
abbrev Agree : Piece → Piece → List ℕ → List ℕ → Type 0
Agree p q x y = (mark p ≡ mark q) × (text_of p ≡ text_of q) × (behind p x ≡ behind q y)

same : (p q : Piece) (x y : List ℕ) → IsInRange p → IsInRange q → Agree p q x y → (p ≡ q) × (x ≡ y)
same (piece.Status a) (piece.Status b) x y r s h = (ap piece.Status h.1, h.2)
same (piece.Fault a) (piece.Fault b) x y r s h = (ap piece.Fault h.1, h.2)
same (piece.Number m) (piece.Number n) x y r s h = (ap piece.Number (signed_is m n r s h.1), h.2)
same (piece.Bulk a) (piece.Bulk b) x y r s h =
    let both = same_length a b (13 ∷ 10 ∷ x) (13 ∷ 10 ∷ y) (decimal_injective (length a) (length b) r s h.1) h.2 in
    (ap piece.Bulk both.0, cc both.1)
same (piece.Bulk a) piece.NoBulk x y r s h = absurd (no_minus (length a) r h.1)
same piece.NoBulk (piece.Bulk b) x y r s h = absurd (no_minus (length b) s (sym h.1))
same piece.NoBulk piece.NoBulk x y r s h = (refl, h.2)
same piece.NoList piece.NoList x y r s h = (refl, h.2)
same piece.NoList (piece.List n) x y r s h = absurd (no_minus n (omega (arith, s)) (sym h.1))
same (piece.List n) piece.NoList x y r s h = absurd (no_minus n (omega (arith, r)) h.1)
same (piece.List m) (piece.List n) x y r s h = (ap piece.List (decimal_injective m n (omega (arith, r)) (omega (arith, s)) h.1), h.2)
same p q x y r s h = absurd (omega (arith, h.0))

pub same_piece : (p q : Piece) (x y : List ℕ) → IsClean p → IsClean q → IsInRange p → IsInRange q → piece_text p ++ x ≡ piece_text q ++ y → (p ≡ q) × (x ≡ y)
same_piece p q x y c d r s e =
    same p q x y r s (same_line (mark p) (mark q) (text_of p) (text_of q) (behind p x) (behind q y) (no_return p c r) (no_return q d s) (sym (parts p x) ∙ e ∙ parts q y))

abbrev AreClean : List Piece → Type 0
AreClean ps = AllByRecursion IsClean ps × AllByRecursion IsInRange ps

pub same_replies : (n : ℕ) (a b : List Piece) (x y : List ℕ) → AreReplies n a → AreReplies n b → AreClean a → AreClean b → frame_text a ++ x ≡ frame_text b ++ y → (a ≡ b) × (x ≡ y)
same_replies zero [] [] x y v w c d e = (refl, e)
same_replies zero [] (q ∷ b) x y v w c d e = absurd w
same_replies zero (p ∷ a) b x y v w c d e = absurd v
same_replies (suc n) [] b x y v w c d e = absurd v
same_replies (suc n) (p ∷ a) [] x y v w c d e = absurd w
same_replies (suc n) (p ∷ a) (q ∷ b) x y v w c d e =
    let first = same_piece p q (frame_text a ++ x) (frame_text b ++ y) c.0.0 d.0.0 c.1.0 d.1.0 (sym (append_assoc (piece_text p) (frame_text a) x) ∙ e ∙ append_assoc (piece_text q) (frame_text b) y) in
    let counted : AreReplies (inside p + n) b = subst (λ (z : Piece). AreReplies (inside z + n) b) (sym first.0) w in
    let others = same_replies (inside p + n) a b x y v counted (c.0.1, c.1.1) (d.0.1, d.1.1) first.1 in
    (cc (first.0, others.0), others.1)
