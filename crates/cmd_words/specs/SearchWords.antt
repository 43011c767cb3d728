-- What stands behind the key of a search: its options in any order, and its output.
use Rattle.std.specs.Prelude.{◌≡◌, ◌&&◌, not, length, nat_lt, ℤ, Bool, true, false, [], ◌∷◌, ◌++◌, Option, Some, None, is_none, codes}
use Rattle.byte_text.specs.Names.{Bytes, is_name}
use Rattle.world_data.specs.Limits.{max_limit, max_tests, max_values}
use Rattle.world_model.specs.Grammar.{Form, a_word, ◌>>=◌, ◌>>◌, ◌or◌, done, one_word, times}
use Rattle.world_model.specs.Kinds.{when, name, glob, value, between, bound, bound_of, again}
use Rattle.world_model.specs.Commands.{SearchOptions, search_option, where_range, where_same}
use Rattle.world_model.specs.declared.commands.Command.{Command}
use Rattle.world_data.specs.declared.filters.Test.{Test}
use Rattle.world_data.specs.declared.filters.Test.TheVariants.{Range, Same, Among}
use Rattle.world_data.specs.declared.queries.Shown.{Shown}
use Rattle.world_data.specs.declared.queries.Shown.TheVariants as shown
use Rattle.cmd_words.specs.Options.{Options}
use Rattle.cmd_words.specs.Progress.{Place, Took, IsNot}
use Rattle.cmd_words.specs.declared.conditions.FirstValue.{FirstValue}
use Rattle.cmd_words.specs.declared.conditions.FirstValue.TheVariants.{Least, Text}
use Rattle.cmd_words.specs.declared.search_options.SearchWord.{SearchWord}
use Rattle.cmd_words.specs.declared.search_options.SearchWord.TheVariants as option

-- the tests behind WHERE and WHEREIN

abbrev pub behind_name : Bytes → Form Test
behind_name field_name = where_range field_name or where_same field_name

abbrev pub value_test : Form Test
value_test = name >>= behind_name

abbrev pub among_test : Form Test
among_test = do
  field_name ← name
  count ← between 1 max_values
  values ← times count value
  done (Among field_name values)

-- the first word behind the field's name of WHERE, which may be a name or not, and this bound or none: the least value of a range, or a text
abbrev pub first_by : Bytes → Bool → Option (Option ℤ) → Option FirstValue
first_by w named (Some low) = Some (Least low)
first_by w named None = when named (Text w)

abbrev pub first_of : Bytes → Option FirstValue
first_of w = first_by w (is_name w) (bound_of w)

-- such a word, and what is to follow it
abbrev pub a_first_value : (FirstValue → Form Command) → Form Command
a_first_value next = one_word a_word first_of >>= next

-- what is due behind it
abbrev pub behind_least : Bytes → Option ℤ → Form Test
behind_least field_name low = bound >>= λ high. done (Range field_name low high)

abbrev pub behind_text : Bytes → Bytes → Form Test
behind_text field_name t = again t >> done (Same field_name t)

abbrev pub behind_first : Bytes → FirstValue → Form Test
behind_first field_name (Least low) = behind_least field_name low
behind_first field_name (Text t) = behind_text field_name t

-- the options with one more test
abbrev pub with_test : SearchOptions → Test → SearchOptions
with_test o t = record o { tests = o.tests ++ t ∷ [] }

-- what is behind the word of an option, and the options with it
abbrev pub behind_word : SearchOptions → SearchWord → Form SearchOptions
behind_word o option.Match = glob >>= λ pattern. done (record o { glob = Some pattern })
behind_word o option.Cursor = between 0 4294967295 >>= λ n. done (record o { cursor = Some n })
behind_word o option.Limit = between 1 max_limit >>= λ n. done (record o { limit = Some n })
behind_word o option.NoFields = done (record o { bare = true })
behind_word o option.Ascending = done (record o { down = Some false })
behind_word o option.Descending = done (record o { down = Some true })
behind_word o option.Where = value_test >>= λ t. done (with_test o t)
behind_word o option.WhereIn = among_test >>= λ t. done (with_test o t)

-- the word that an option begins with
abbrev pub option_name : SearchWord → Bytes
option_name option.Match = codes "MATCH"
option_name option.Cursor = codes "CURSOR"
option_name option.Limit = codes "LIMIT"
option_name option.NoFields = codes "NOFIELDS"
option_name option.Ascending = codes "ASC"
option_name option.Descending = codes "DESC"
option_name option.Where = codes "WHERE"
option_name option.WhereIn = codes "WHEREIN"

-- the option may still come; ASC and DESC stand in a search whose order may be chosen alone
abbrev pub may_come : Bool → SearchOptions → SearchWord → Bool
may_come ordered o option.Match = is_none o.glob
may_come ordered o option.Cursor = is_none o.cursor
may_come ordered o option.Limit = is_none o.limit
may_come ordered o option.NoFields = not o.bare
may_come ordered o option.Ascending = ordered && is_none o.down
may_come ordered o option.Descending = ordered && is_none o.down
may_come ordered o option.Where = nat_lt (length o.tests) max_tests
may_come ordered o option.WhereIn = nat_lt (length o.tests) max_tests

abbrev pub search_table : Bool → Options SearchOptions SearchWord
search_table ordered = record { one = search_option ordered; name = option_name; may = may_come ordered; behind = behind_word }

-- the word that asks for an output
abbrev pub output_name : Shown → Bytes
output_name shown.Count = codes "COUNT"
output_name shown.Ids = codes "IDS"
output_name shown.Objects = codes "OBJECTS"
output_name shown.Points = codes "POINTS"
output_name shown.Bounds = codes "BOUNDS"

-- an output was read; or none was, and none is next
abbrev pub ReadsOutput : Place → Place → Option Shown → Type 0
ReadsOutput old new (Some how) = Took (output_name how) old new true
ReadsOutput old new None = (new ≡ old) × ((how : Shown) → IsNot (output_name how) old.left)
