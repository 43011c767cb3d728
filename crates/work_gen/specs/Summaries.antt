-- The lines of a summary.
use Rattle.std.specs.Prelude.{ℕ, [], ◌∷◌, ◌++◌, codes, decimal}
use Rattle.byte_text.specs.Names.{Bytes}
use Rattle.work_gen.specs.declared.summaries.Summary.{Summary}

-- a word, a space, a number, LF
abbrev pub summary_line : Bytes → ℕ → Bytes
summary_line word n = word ++ 32 ∷ [] ++ decimal n ++ 10 ∷ []

abbrev pub summary_text : Summary → Bytes
summary_text s =
    summary_line (codes "commands") s.commands
    ++ summary_line (codes "objects") s.objects
    ++ summary_line (codes "messages") s.messages
    ++ summary_line (codes "bytes") s.bytes
