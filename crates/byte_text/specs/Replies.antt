-- RESP2 replies: their pieces, whole replies, and the text of a frame.
use Rattle.std.specs.Prelude.{ℕ, zero, suc, ◌+◌, ◌<◌, ◌^◌, pos, List, [], ◌∷◌, length, codes, decimal, flat_map, FitsSigned}
use Rattle.std.specs.Int.{w64}
use Rattle.std.specs.Fmt.{signed_decimal}
use Rattle.std.specs.List.{AllByRecursion}
use Rattle.byte_text.specs.Names.{Bytes}
use Rattle.byte_text.specs.Lines.{line, bulk_text, IsOneLine}
use Rattle.byte_text.specs.declared.replies.Piece.{Piece}
use Rattle.byte_text.specs.declared.replies.Piece.TheVariants as piece

-- "Simple strings", "Simple errors", "Integers", "Bulk strings", "Null bulk strings", "Null arrays", and the head of "Arrays"
abbrev pub piece_text : Piece → Bytes
piece_text (piece.Status text) = line 43 text
piece_text (piece.Fault text) = line 45 text
piece_text (piece.Number n) = line 58 (signed_decimal n)
piece_text (piece.Bulk bytes) = bulk_text bytes
piece_text piece.NoBulk = line 36 (45 ∷ 49 ∷ [])
piece_text piece.NoList = line 42 (45 ∷ 49 ∷ [])
piece_text (piece.List n) = line 42 (decimal n)

-- the text of a reply's frame
abbrev pub frame_text : List Piece → Bytes
frame_text reply = flat_map piece_text reply

-- the text of frames, one behind another

-- how many replies stand inside a piece
abbrev pub inside : Piece → ℕ
inside (piece.Status text) = 0
inside (piece.Fault text) = 0
inside (piece.Number n) = 0
inside (piece.Bulk bytes) = 0
inside piece.NoBulk = 0
inside piece.NoList = 0
inside (piece.List n) = n

-- n whole replies, one behind another: a piece, the replies inside it, and n - 1 more
abbrev pub AreReplies : ℕ → List Piece → Type 0
AreReplies zero [] = Unit {0}
AreReplies zero (p ∷ ps) = ⊥
AreReplies (suc n) [] = ⊥
AreReplies (suc n) (p ∷ ps) = AreReplies (inside p + n) ps

-- one whole reply: a piece that is no list, or a list's head and so many whole replies
abbrev pub IsWhole : List Piece → Type 0
IsWhole reply = AreReplies 1 reply

-- simple strings and errors are of one line
abbrev pub IsClean : Piece → Type 0
IsClean (piece.Status text) = IsOneLine text
IsClean (piece.Fault text) = IsOneLine text
IsClean (piece.Number n) = Unit {0}
IsClean (piece.Bulk bytes) = Unit {0}
IsClean piece.NoBulk = Unit {0}
IsClean piece.NoList = Unit {0}
IsClean (piece.List n) = Unit {0}

-- the ranges of the numbers that a piece's type holds
abbrev pub IsInRange : Piece → Type 0
IsInRange (piece.Status text) = Unit {0}
IsInRange (piece.Fault text) = Unit {0}
IsInRange (piece.Number n) = FitsSigned w64 n
IsInRange (piece.Bulk bytes) = length bytes < 2 ^ 64
IsInRange piece.NoBulk = Unit {0}
IsInRange piece.NoList = Unit {0}
IsInRange (piece.List n) = n < 2 ^ 32

-- a whole reply of clean pieces
pub record IsFrame (reply : List Piece) : Type 0 where
  pub whole : IsWhole reply
  pub clean : AllByRecursion IsClean reply

-- replies in an array
abbrev pub array : List (List Piece) → List Piece
array replies = piece.List (length replies) ∷ flat_map (λ r. r) replies

-- a bulk string
abbrev pub bulk : Bytes → List Piece
bulk text = piece.Bulk text ∷ []

-- an integer
abbrev pub number : ℕ → List Piece
number n = piece.Number (pos n) ∷ []

-- `+OK`
abbrev pub fine : List Piece
fine = piece.Status (codes "OK") ∷ []
