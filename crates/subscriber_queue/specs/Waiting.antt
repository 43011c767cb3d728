-- What a contract sees of a session's queue.
use Rattle.std.specs.Prelude.{ℕ, ◌+◌, Bool, true, ◌&&◌, nat_lt, nat_le, List, [], ◌∷◌, length}
use Rattle.byte_text.specs.Names.{Bytes}
use Rattle.world_data.specs.Frames.{frame_bytes}
use Rattle.world_data.specs.Limits.{cap_frames, cap_bytes}

-- the frames that wait, the next one first, and those that are staged behind them
pub record Waiting : Type 0 where
  pub frames : List Bytes
  pub staged : List Bytes

-- where these frames wait, one more of so many bytes may
abbrev pub takes : List Bytes → ℕ → Bool
takes frames size = nat_lt (length frames) cap_frames && nat_le (frame_bytes frames + size) cap_bytes

-- the first of some more may; where there are none, nothing hinders
abbrev pub takes_first : List Bytes → List Bytes → Bool
takes_first frames [] = true
takes_first frames (f ∷ more) = takes frames (length f)
