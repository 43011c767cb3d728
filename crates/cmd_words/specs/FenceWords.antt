-- What stands behind the key of SETCHAN: its options in any order.
use Rattle.std.specs.Prelude.{◌≡◌, ◌&&◌, not, length, nat_lt, Bool, true, false, List, [], ◌∷◌, ◌++◌, Option, Some, is_none, is_some, codes}
use Rattle.std.specs.List.{list_all}
use Rattle.std.specs.Str.{str_to_ascii_lowercase}
use Rattle.byte_text.specs.Names.{Bytes}
use Rattle.world_data.specs.Limits.{max_tests}
use Rattle.world_model.specs.Grammar.{Form, ◌>>=◌, done}
use Rattle.world_model.specs.Kinds.{when, glob, pieces, is_in, list_of}
use Rattle.world_model.specs.Commands.{FenceOptions, fence_option, detect_names, command_names}
use Rattle.world_data.specs.declared.filters.Test.{Test}
use Rattle.cmd_words.specs.Options.{Options}
use Rattle.cmd_words.specs.SearchWords.{value_test, among_test}
use Rattle.cmd_words.specs.declared.listed_names.ListKind.{ListKind}
use Rattle.cmd_words.specs.declared.listed_names.ListKind.TheVariants as list
use Rattle.cmd_words.specs.declared.fence_options.FenceWord.{FenceWord}
use Rattle.cmd_words.specs.declared.fence_options.FenceWord.TheVariants as option

-- the names that a list may have
abbrev pub names_of : ListKind → List Bytes
names_of list.Detect = detect_names
names_of list.Commands = command_names

-- the list of such names that a word is
abbrev pub list_in : List Bytes → Bytes → Option (List Bytes)
list_in names w = let found = pieces (str_to_ascii_lowercase w) in when (list_all (is_in names) found) found

-- the options with one more test
abbrev pub with_test : FenceOptions → Test → FenceOptions
with_test o t = record o { tests = o.tests ++ t ∷ [] }

-- what is behind the word of an option, and the options with it
abbrev pub behind_word : FenceOptions → FenceWord → Form FenceOptions
behind_word o option.Match = glob >>= λ pattern. done (record o { glob = Some pattern })
behind_word o option.Where = value_test >>= λ t. done (with_test o t)
behind_word o option.WhereIn = among_test >>= λ t. done (with_test o t)
behind_word o option.Fence = done (record o { fence = true })
behind_word o option.Detect = list_of detect_names >>= λ l. done (record o { detect = Some l })
behind_word o option.Commands = list_of command_names >>= λ l. done (record o { commands = Some l })
behind_word o option.NoDwell = done (record o { nodwell = true })

-- the word that an option begins with
abbrev pub option_name : FenceWord → Bytes
option_name option.Match = codes "MATCH"
option_name option.Where = codes "WHERE"
option_name option.WhereIn = codes "WHEREIN"
option_name option.Fence = codes "FENCE"
option_name option.Detect = codes "DETECT"
option_name option.Commands = codes "COMMANDS"
option_name option.NoDwell = codes "NODWELL"

-- the option may still come; NODWELL stands in NEARBY alone, and not beside DETECT
abbrev pub may_come : Bool → FenceOptions → FenceWord → Bool
may_come near o option.Match = is_none o.glob
may_come near o option.Where = nat_lt (length o.tests) max_tests
may_come near o option.WhereIn = nat_lt (length o.tests) max_tests
may_come near o option.Fence = not o.fence
may_come near o option.Detect = is_none o.detect && not o.nodwell
may_come near o option.Commands = is_none o.commands
may_come near o option.NoDwell = near && not o.nodwell && is_none o.detect

abbrev pub fence_table : Bool → Options FenceOptions FenceWord
fence_table near = record { one = fence_option near; name = option_name; may = may_come near; behind = behind_word }

-- DETECT and NODWELL were not both read
abbrev pub IsApart : FenceOptions → Type 0
IsApart o = (o.nodwell && is_some o.detect) ≡ false
