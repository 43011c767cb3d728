-- Whole replies one behind another.
use Rattle.std.proofs.Common.{◌≡◌, ℕ, zero, suc, ◌+◌, List, [], ◌∷◌, ◌++◌, subst, arith}
use Rattle.byte_text.specs.Replies.{inside, AreReplies, IsWhole}
use Rattle.byte_text.specs.declared.replies.Piece.{Piece}
use Rattle.byte_text.specs.declared.replies.Piece.TheVariants as piece

pub next : (m n : ℕ) (a b : List Piece) → AreReplies m a → AreReplies n b → AreReplies (m + n) (a ++ b)
next zero n [] b v w =
    let e : n ≡ 0 + n = omega arith in
    subst (λ (k : ℕ). AreReplies k b) e w
next zero n (p ∷ a) b v w = absurd v
next (suc m) n [] b v w = absurd v
next (suc m) n (p ∷ a) b v w =
    let others : AreReplies (inside p + m + n) (a ++ b) = next (inside p + m) n a b v w in
    let same : inside p + m + n ≡ inside p + (m + n) = omega arith in
    let moved : AreReplies (suc (m + n)) (p ∷ (a ++ b)) = subst (λ (k : ℕ). AreReplies k (a ++ b)) same others in
    let e : suc (m + n) ≡ suc m + n = omega arith in
    subst (λ (k : ℕ). AreReplies k (p ∷ (a ++ b))) e moved

pub list : (n : ℕ) (a : List Piece) → AreReplies n a → IsWhole (piece.List n ∷ a)
list n a v =
    let e : n ≡ n + 0 = omega arith in
    subst (λ (k : ℕ). AreReplies k a) e v
