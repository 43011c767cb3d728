-- The texts of whole replies.
use Rattle.std.specs.Prelude.{◌≡◌, List}
use Rattle.std.specs.List.{AllByRecursion}
use Rattle.byte_text.specs.Names.{Bytes}
use Rattle.byte_text.specs.Replies.{IsFrame, IsInRange, frame_text}
use Rattle.byte_text.specs.declared.replies.Piece.{Piece}

-- the bytes are the text of one whole reply
abbrev pub IsFrameText : Bytes → Type 0
IsFrameText text = (reply : List Piece) × IsFrame reply × AllByRecursion IsInRange reply × (text ≡ frame_text reply)
