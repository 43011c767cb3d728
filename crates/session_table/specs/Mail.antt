-- What a contract sees of a session's mailbox.
use Rattle.std.specs.Prelude.{Bool, List, ◌++◌}
use Rattle.byte_text.specs.Names.{Bytes}
use Rattle.delivery_model.specs.Staging.{have_room, Suffice}

-- the frames that wait, the next one first, those that are staged behind them, and the replies behind these
pub record Mail : Type 0 where
  pub frames : List Bytes
  pub staged : List Bytes
  pub replies : List Bytes

-- there is room for all that is staged
abbrev pub has_room_left : Mail → Bool
has_room_left m = have_room m.frames m.staged

-- what is staged does for all of these frames: it is all of them, or more of them than there is room for
abbrev pub IsStaged : Mail → List Bytes → Type 0
IsStaged m all = Suffice m.frames all m.staged

-- whatever was staged before, these frames are staged behind it
pub record Stages (frames : List Bytes) (old new : Mail) : Type 0 where
  pub behind : (all : List Bytes) → IsStaged old all → IsStaged new (all ++ frames)
