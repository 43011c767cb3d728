-- Replies of many items.
use Rattle.std.specs.Prelude.{◌≡◌, ◌<◌, List, filter, flat_map, length, map}
use Rattle.byte_text.specs.Names.{Bytes}
use Rattle.byte_text.specs.Globs.{glob_meets}
use Rattle.byte_text.specs.Replies.{frame_text}
use Rattle.byte_text.specs.declared.replies.Piece.{Piece}
use Rattle.reply_text.specs.Items.{Items}
use Rattle.reply_text.specs.declared.frames.ReplyFault.{ReplyFault}
use Rattle.reply_text.specs.declared.frames.ReplyFault.TheVariants as fault
use Rattle.keyspace.specs.Entries.{Entry, has_objects}
use Rattle.world_data.specs.Limits.{max_reply}

-- the keys that have an object and meet a pattern
abbrev pub keys_met : Bytes → List Entry → List Bytes
keys_met pattern entries = filter (glob_meets pattern) (map (λ e. e.key) (filter has_objects entries))

-- the replies, one behind another
abbrev pub joined : List (List Piece) → List Piece
joined replies = flat_map (λ r. r) replies

-- the items are these replies
pub record AreItems (replies : List (List Piece)) (items : Items) : Type 0 where
  pub text : items.text ≡ frame_text (joined replies)
  pub count : items.count ≡ length replies

-- a frame that is too long is one of a reply that is
abbrev pub IsTooLong : List Piece → ReplyFault → Type 0
IsTooLong reply fault.TooLong = max_reply < length (frame_text reply)
IsTooLong reply fault.Memory = Unit {0}
