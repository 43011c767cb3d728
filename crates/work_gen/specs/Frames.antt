-- What frames come to: messages and bytes.
use Rattle.std.specs.Prelude.{ℕ, nat_eq, ◌-◌, ◌^◌, min, Bool, List, codes, flat_map, if◌then◌else◌}
use Rattle.std.specs.List.{starts_with, sum_by}
use Rattle.byte_text.specs.Names.{Bytes}

-- the frame of a message that came by a pattern: an array of four bulk strings, the first of them this word
unfoldable pub is_message : Bytes → Bool
is_message frame = starts_with nat_eq frame (codes "*4\r\n$8\r\npmessage\r\n")

-- the frames of takes, one behind another
abbrev pub all_of : List (List Bytes) → List Bytes
all_of takes = flat_map (λ frames. frames) takes

-- how many of the frames are such
abbrev pub message_count : Bytes → ℕ
message_count frame = if is_message frame then 1 else 0

abbrev pub messages_in : List Bytes → ℕ
messages_in frames = sum_by message_count frames

-- a count stops at the greatest number of 64 bits
abbrev pub capped : ℕ → ℕ
capped n = min n (2 ^ 64 - 1)
