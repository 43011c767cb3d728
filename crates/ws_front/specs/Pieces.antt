-- The piece at the front of some bytes (RESP2, "RESP protocol description").
use Rattle.std.specs.Prelude.{◌≡◌, ◌==◌, ◌||◌, Bool, ℕ, ◌<◌, ◌^◌, [], ◌∷◌, ◌++◌, length, decimal, FitsSigned}
use Rattle.std.specs.Int.{w64}
use Rattle.std.specs.Fmt.{signed_decimal}
use Rattle.byte_text.specs.Names.{Bytes}
use Rattle.byte_text.specs.Replies.{piece_text, IsClean, IsInRange}
use Rattle.byte_text.specs.declared.replies.Piece.{Piece}
use Rattle.byte_text.specs.declared.replies.Piece.TheVariants as piece

-- CR or LF
abbrev pub is_end : ℕ → Bool
is_end b = b == 13 || b == 10

-- the bytes are the text of a piece, and the rest behind it
pub record IsPieceAt (bytes : Bytes) (p : Piece) (rest : Bytes) : Type 0 where
  pub text : bytes ≡ piece_text p ++ rest
  pub clean : IsClean p
  pub in_range : IsInRange p

-- the same of a line's mark and its text, and of what stands behind the line
abbrev pub IsPieceOf : ℕ → Bytes → Bytes → Piece → Bytes → Type 0
IsPieceOf mark text behind (piece.Status s) rest = (mark ≡ 43) × (text ≡ s) × (behind ≡ rest)
IsPieceOf mark text behind (piece.Fault s) rest = (mark ≡ 45) × (text ≡ s) × (behind ≡ rest)
IsPieceOf mark text behind (piece.Number n) rest = (mark ≡ 58) × (text ≡ signed_decimal n) × (behind ≡ rest) × FitsSigned w64 n
IsPieceOf mark text behind (piece.Bulk s) rest = (mark ≡ 36) × (text ≡ decimal (length s)) × (behind ≡ s ++ 13 ∷ 10 ∷ rest) × (length s < 2 ^ 64)
IsPieceOf mark text behind piece.NoBulk rest = (mark ≡ 36) × (text ≡ 45 ∷ 49 ∷ []) × (behind ≡ rest)
IsPieceOf mark text behind piece.NoList rest = (mark ≡ 42) × (text ≡ 45 ∷ 49 ∷ []) × (behind ≡ rest)
IsPieceOf mark text behind (piece.List n) rest = (mark ≡ 42) × (text ≡ decimal n) × (behind ≡ rest) × (n < 2 ^ 32)
