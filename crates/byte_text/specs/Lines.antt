-- RESP2, "RESP protocol description": each part of a message begins with a mark and ends with CR LF.
use Rattle.std.specs.Prelude.{ℕ, ◌≢◌, [], ◌∷◌, ◌++◌, length, decimal}
use Rattle.std.specs.List.{AllByRecursion}
use Rattle.byte_text.specs.Names.{Bytes}

-- CR LF
abbrev pub line_end : Bytes
line_end = 13 ∷ 10 ∷ []

-- a mark, a text, and CR LF
abbrev pub line : ℕ → Bytes → Bytes
line mark text = mark ∷ (text ++ line_end)

-- `$`, the number of bytes, CR LF, the bytes, and CR LF ("Bulk strings")
abbrev pub bulk_text : Bytes → Bytes
bulk_text bytes = line 36 (decimal (length bytes)) ++ (bytes ++ line_end)

-- neither CR nor LF, as simple strings and errors want it ("Simple strings")
abbrev pub IsOneLine : Bytes → Type 0
IsOneLine text = AllByRecursion (λ b. (b ≢ 13) × (b ≢ 10)) text
