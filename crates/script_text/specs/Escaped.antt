-- Bytes as a script's output writes them.
use Rattle.std.specs.Prelude.{ℕ, ◌&&◌, ◌==◌, Bool, not, [], ◌∷◌, ◌++◌, codes, if◌then◌else◌, flat_map}
use Rattle.std.specs.Char.{is_ascii_graphic}
use Rattle.byte_text.specs.Names.{Bytes}
use Rattle.percent_encoding.specs.Percent.{percent_encode_byte}

-- from 0x21 to 0x7E, and no `%`
abbrev pub is_kept : ℕ → Bool
is_kept b = is_ascii_graphic b && not (b == 37)

-- such a byte by itself, and any other as `%` and two upper-case hexadecimal digits
abbrev pub escaped_byte : ℕ → Bytes
escaped_byte b = if is_kept b then b ∷ [] else percent_encode_byte b

abbrev pub escaped : Bytes → Bytes
escaped bytes = flat_map escaped_byte bytes

-- the line of a frame that was taken
abbrev pub frame_line : Bytes → Bytes
frame_line frame = codes "frame " ++ escaped frame ++ 10 ∷ []
