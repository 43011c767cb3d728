-- Words as bulk strings, one after another.
use Rattle.std.proofs.Common.{◌≡◌, ℕ, zero, suc, ◌+◌, List, [], ◌∷◌, ◌++◌, length, map, flat_map, drop, refl, ap, add-one, append_assoc}
use Rattle.std.specs.Prelude.{Some, slice_get}
use Rattle.byte_text.specs.Names.{Bytes}
use Rattle.byte_text.specs.Replies.{array, bulk}
use Rattle.byte_text.specs.declared.replies.Piece.{Piece}
use Rattle.byte_text.specs.declared.replies.Piece.TheVariants as piece

abbrev pub pieces : List Bytes → List Piece
pieces words = flat_map (λ r. r) (map bulk words)

counted : (words : List Bytes) → length (map bulk words) ≡ length words
counted [] = refl
counted (w ∷ words) = ap suc (counted words)

step : (words : List Bytes) (i : ℕ) (w : Bytes) → slice_get words i ≡ Some w → pieces (drop i words) ≡ bulk w ++ pieces (drop (suc i) words)
step [] i w is = absurd (cc)
step (v ∷ words) zero w is = let e : v ≡ w = cc in rw e refl
step (v ∷ words) (suc i) w is = step words i w is

-- a word is written, and the rest is as it was
pub written : (words : List Bytes) (i : ℕ) (w : Bytes) (before after whole : List Piece) → slice_get words i ≡ Some w → after ≡ before ++ bulk w
    → before ++ pieces (drop i words) ≡ whole → after ++ pieces (drop (i + 1) words) ≡ whole
written words i w before after whole at made so_far = rw (made, add-one, append_assoc, ← step words i w at) so_far

-- the head with room for all, and all that follows
pub begun : (words : List Bytes) (n : ℕ) (before after : List Piece) → n ≡ length words → after ≡ before ++ piece.List n ∷ []
    → after ++ pieces (drop 0 words) ≡ before ++ array (map bulk words)
begun words n before after e made = rw (made, e, ← counted words, append_assoc) refl
