-- The words of a line, which one space separates.
use Rattle.std.specs.Prelude.{ℕ, ◌==◌, List, [], ◌∷◌, Option, Some, None, if◌then◌else◌}
use Rattle.std.specs.Borrow.{Bor}
use Rattle.byte_text.specs.Names.{Bytes}

-- a byte before the first word
abbrev pub with_byte : ℕ → List Bytes → List Bytes
with_byte b [] = (b ∷ []) ∷ []
with_byte b (w ∷ ws) = (b ∷ w) ∷ ws

abbrev pub words : Bytes → List Bytes
words [] = [] ∷ []
words (b ∷ bytes) = if b == 32 then [] ∷ words bytes else with_byte b (words bytes)

-- a word, and those of the text behind its space
abbrev pub word_and_rest : Bytes → Option (Bor Bytes) → List Bytes
word_and_rest word None = word ∷ []
word_and_rest word (Some rest) = word ∷ words rest.now
