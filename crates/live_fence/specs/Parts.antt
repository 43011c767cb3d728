-- What is shown of a frame on the connection of the session to which it is sent.
use Rattle.std.specs.Prelude.{ℕ, Bool, false, not, ◌&&◌, ◌==◌, List, [], ◌∷◌, Option, Some, None, if◌then◌else◌, codes}
use Rattle.byte_text.specs.Names.{Bytes}
use Rattle.byte_text.specs.Replies.{frame_text, array, bulk}
use Rattle.byte_text.specs.declared.replies.Piece.{Piece}
use Rattle.byte_text.specs.declared.replies.Piece.TheVariants as piece
use Rattle.live_fence.specs.LiveFences.{live_name}

-- what the bytes have behind a beginning
abbrev pub behind : Bytes → Bytes → Option Bytes
behind [] bytes = Some bytes
behind (a ∷ front) [] = None
behind (a ∷ front) (b ∷ bytes) = if a == b then behind front bytes else None

-- the pieces of a message before its payload: an array of three, `message`, and the channel
abbrev pub head_pieces : ℕ → List Piece
head_pieces session = piece.List 3 ∷ piece.Bulk (codes "message") ∷ piece.Bulk (live_name session) ∷ []

-- a bulk string begins that is not the null one
abbrev pub begins_bulk : Bytes → Bool
begins_bulk [] = false
begins_bulk (m ∷ []) = false
begins_bulk (m ∷ d ∷ bytes) = m == 36 && not (d == 45)

abbrev pub bulk_in : Option Bytes → Option Bytes
bulk_in None = None
bulk_in (Some rest) = if begins_bulk rest then Some rest else None

-- the payload, as a bulk string, of a message of the session's live fence
abbrev pub payload_at : ℕ → Bytes → Option Bytes
payload_at session frame = bulk_in (behind (frame_text (head_pieces session)) frame)

abbrev pub payload_or : Bytes → Option Bytes → Bytes
payload_or frame None = frame
payload_or frame (Some payload) = payload

-- of such a message its payload alone is shown, of every other frame all
abbrev pub shown : ℕ → Bytes → Bytes
shown session frame = payload_or frame (payload_at session frame)

-- the reply of which a message of the session's live fence is the frame
abbrev pub own_message : ℕ → Bytes → List Piece
own_message session payload = array (bulk (codes "message") ∷ bulk (live_name session) ∷ bulk payload ∷ [])
