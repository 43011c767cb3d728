-- JSON strings (RFC 8259, section 7), in the one spelling that this project writes.
use Rattle.std.specs.Prelude.{ℕ, ◌+◌, ◌/◌, ◌%◌, ◌==◌, ◌||◌, nat_lt, [], ◌∷◌, ◌++◌, codes, if◌then◌else◌, flat_map}
use Rattle.byte_text.specs.Names.{Bytes}

-- a lower-case hexadecimal digit
abbrev pub hex_digit : ℕ → ℕ
hex_digit n = if nat_lt n 10 then 48 + n else 87 + n

-- a byte as it stands in a JSON string: the short escapes, `\u00` and two digits for the other control characters, else itself
abbrev pub json_byte : ℕ → Bytes
json_byte b =
    if b == 34 || b == 92 then 92 ∷ b ∷ [] else
    if b == 8 then codes "\\b" else
    if b == 9 then codes "\\t" else
    if b == 10 then codes "\\n" else
    if b == 12 then codes "\\f" else
    if b == 13 then codes "\\r" else
    if nat_lt b 32 then codes "\\u00" ++ hex_digit (b / 16) ∷ hex_digit (b % 16) ∷ [] else
    b ∷ []

-- the JSON string of a text, with its quotes
abbrev pub quoted : Bytes → Bytes
quoted bytes = 34 ∷ flat_map json_byte bytes ++ 34 ∷ []
