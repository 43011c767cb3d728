-- One name or more, to the end of the words: keys, channels, or patterns of channels.
use Rattle.std.specs.Prelude.{◌≡◌, ◌⊎◌, List, [], ◌∷◌, ◌++◌, Option, Result, Ok, Err}
use Rattle.byte_text.specs.Names.{Bytes}
use Rattle.world_model.specs.Grammar.{Form, a_word, one_word, ◌>>=◌, done, repeated}
use Rattle.world_model.specs.Commands.{reads}
use Rattle.world_model.specs.declared.commands.Command.{Command}
use Rattle.cmd_words.specs.Progress.{Place, Follows, all_words, answers, name_of, glob_of}
use Rattle.cmd_words.specs.declared.name_lists.NameKind.{NameKind}
use Rattle.cmd_words.specs.declared.name_lists.NameKind.TheVariants as kind
use Rattle.cmd_words.specs.declared.faults.CommandFault.{CommandFault}
use Rattle.cmd_words.specs.declared.faults.CommandFault.TheVariants.{Memory}

-- the name that a word is, where it may stand in such a list
abbrev pub kind_of : NameKind → Bytes → Option Bytes
kind_of kind.Plain = name_of
kind_of kind.Pattern = glob_of

-- one more name, and the names behind those that were read
abbrev pub name_step : (Bytes → Option Bytes) → List Bytes → Form (List Bytes)
name_step reader names = one_word a_word reader >>= λ n. done (names ++ n ∷ [])

abbrev pub names_more : (Bytes → Option Bytes) → (List Bytes → Command) → List Bytes → Form Command
names_more reader make names = repeated (name_step reader) names >>= λ all. done (make all)

abbrev pub some_names : (Bytes → Option Bytes) → (List Bytes → Command) → Form Command
some_names reader make = one_word a_word reader >>= λ n. names_more reader make (n ∷ [])

-- one name or more are all that is left, whatever they are for; or how all the words are refused; or memory ran out
abbrev pub ReadsNames : (Bytes → Option Bytes) → Place → Result (List Bytes) CommandFault → Type 0
ReadsNames reader old (Ok names) = (make : List Bytes → Command) → Follows old (some_names reader make) → reads (all_words old) ≡ Ok (make names)
ReadsNames reader old (Err why) = (why ≡ Memory)
    ⊎ ((make : List Bytes → Command) → Follows old (some_names reader make) → answers (all_words old) ≡ Err why)
