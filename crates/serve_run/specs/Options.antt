-- What clap makes of a command line.
use Rattle.std.specs.Prelude.{Bool, true, false, List, [], ◌∷◌, Option, Some, None, option_map, bytes_eq}
use Rattle.std.specs.Borrow.{Bor}
use Rattle.byte_text.specs.Names.{Bytes}
use Rattle.clap.specs.Faults.{fault_of}
use Rattle.clap.specs.Kinds.{Kinds}
use Rattle.clap.specs.Simple.{App, matches_of, new_rule}
use Rattle.clap.specs.Walk.{Row, Rule}
use Rattle.clap.specs.declared.builder.action.ArgAction.TheVariants.{SetTrue}

-- a word that has to be there, an option with a value, and one without
abbrev pub needed_rule : Bytes → Rule
needed_rule id = record (new_rule id) { required = true }

abbrev pub option_rule : Bytes → Rule
option_rule id = record (new_rule id) { long = Some id }

abbrev pub flag_rule : Bytes → Rule
flag_rule id = record (new_rule id) { long = Some id; action = Some SetTrue }

-- what was found, where nothing was refused
abbrev pub rows_if : Kinds → List Row → Option (List Row)
rows_if [] rows = Some rows
rows_if (kind ∷ kinds) rows = None

-- what clap finds in the words for a command, where it takes them
abbrev pub rows_taken : App → List Bytes → Option (List Row)
rows_taken app words = rows_if (fault_of app words) (matches_of app words)

-- the first word is this one
abbrev pub begins_with : Bytes → List Bytes → Bool
begins_with name [] = false
begins_with name (word ∷ words) = bytes_eq word name

-- the text of a word that may be there
abbrev pub word_of : Option (Bor Bytes) → Option Bytes
word_of = option_map (λ s. s.now)
