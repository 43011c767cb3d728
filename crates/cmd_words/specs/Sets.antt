-- SET: its options and its place.
use Rattle.std.specs.Prelude.{◌≡◌, ◌⊎◌, ◌<◌, length, ℤ, pos, Bool, true, false, List, [], ◌∷◌, ◌++◌, Option, Some, None, is_none}
use Rattle.std.specs.Prelude.{unwrap_or, if◌then◌else◌, Result, Ok, Err, codes}
use Rattle.byte_text.specs.Names.{Bytes}
use Rattle.byte_text.specs.Numbers.{whole_within}
use Rattle.geo_text.specs.Texts.{Shape, shape_of}
use Rattle.world_data.specs.Limits.{max_coord}
use Rattle.world_model.specs.Grammar.{Form, ◌>>=◌, done, repeated}
use Rattle.world_model.specs.Kinds.{accepted}
use Rattle.world_data.specs.Filters.{Field, is_no_value, zero_value}
use Rattle.world_data.specs.declared.values.Value.{Value}
use Rattle.world_data.specs.declared.values.Value.TheVariants.{Whole}
use Rattle.world_model.specs.Commands.{SetOptions, set_option, field, place, nonzero_of, cleared_of, reads}
use Rattle.world_model.specs.declared.object_commands.Only.TheVariants.{Any}
use Rattle.world_model.specs.declared.commands.Command.{Command}
use Rattle.world_model.specs.declared.commands.Command.TheVariants as command
use Rattle.world_model.specs.declared.object_commands.ObjectCommand.TheVariants as of_object
use Rattle.cmd_words.specs.Progress.{Place, all_words, answers, Moves, Follows, Took, TookDue, IsNot, IsNotDue}
use Rattle.cmd_words.specs.declared.set_options.OptionWord.{OptionWord}
use Rattle.cmd_words.specs.declared.set_options.OptionWord.TheVariants as option
use Rattle.cmd_words.specs.declared.object_places.PlaceWord.{PlaceWord}
use Rattle.cmd_words.specs.declared.object_places.PlaceWord.TheVariants as at
use Rattle.cmd_words.specs.declared.faults.CommandFault.{CommandFault}
use Rattle.cmd_words.specs.declared.faults.CommandFault.TheVariants.{Memory}

-- kinds of word

-- the coordinate of at least this that a word is
abbrev pub coordinate_of : ℤ → Bytes → Option ℤ
coordinate_of low = whole_within low (pos max_coord)

-- the object that a word is, with its shape
abbrev pub object_of : Bytes → Option (Bytes × Shape)
object_of w = accepted w (shape_of w)

-- what the options say before any was read
abbrev pub no_options : SetOptions
no_options = record { given = []; after_ex = None; only = None }

-- more options behind those that were read, and then a place
abbrev pub options_and_place : SetOptions → (SetOptions → Bytes × Shape → Form Command) → Form Command
options_and_place o next = repeated set_option o >>= λ all. place >>= next all

-- the SET that a key and an id, the options and the place ask for
abbrev pub set_of : Bytes × Bytes → SetOptions → Bytes × Shape → Command
set_of k o at = command.Object (of_object.Set k.0 k.1 (nonzero_of o.given) (cleared_of o.given) o.after_ex (unwrap_or o.only Any) at.0 at.1)

-- what stands behind SET's key and id
abbrev pub behind_set : Bytes × Bytes → Form Command
behind_set k = options_and_place no_options (λ o at. done (set_of k o at))

-- the word that an option begins with
abbrev pub option_name : OptionWord → Bytes
option_name option.Field = codes "FIELD"
option_name option.Seconds = codes "EX"
option_name option.Absent = codes "NX"
option_name option.Present = codes "XX"

-- the option may still come
abbrev pub may_come : SetOptions → OptionWord → Bool
may_come o option.Field = true
may_come o option.Seconds = is_none o.after_ex
may_come o option.Absent = is_none o.only
may_come o option.Present = is_none o.only

-- no option that may come is next
abbrev pub LacksOption : SetOptions → List Bytes → Type 0
LacksOption o left = (kind : OptionWord) → IsNotDue (may_come o kind) (option_name kind) left

-- the word of an option was read; or none was, and none is next
abbrev pub TakesOption : SetOptions → Place → Place → Option OptionWord → Type 0
TakesOption o old new (Some kind) = TookDue (may_come o kind) (option_name kind) old new true
TakesOption o old new None = (new ≡ old) × LacksOption o old.left

-- the words behind are read from here on with these options in place of those
pub record Goes (o p : SetOptions) (old new : Place) : Type 0 where
  pub moves : Moves old new
  pub follows : (next : SetOptions → Bytes × Shape → Form Command) → Follows old (options_and_place o next) → Follows new (options_and_place p next)

-- how all the words are refused, whatever is to follow the place; or memory ran out
abbrev pub Refuses : SetOptions → Place → CommandFault → Type 0
Refuses o old why = (why ≡ Memory) ⊎ ((next : SetOptions → Bytes × Shape → Form Command) → Follows old (options_and_place o next)
    → answers (all_words old) ≡ Err why)

-- an option was read; or none was, and none is next
abbrev pub ReadsOption : SetOptions → SetOptions → Place → Place → Result Bool CommandFault → Type 0
ReadsOption o p old new (Ok true) = Goes o p old new × (length new.left < length old.left)
ReadsOption o p old new (Ok false) = (new ≡ old) × (p ≡ o) × LacksOption o old.left
ReadsOption o p old new (Err why) = Refuses o old why

-- all options were read
abbrev pub ReadsOptions : SetOptions → Place → Place → Result SetOptions CommandFault → Type 0
ReadsOptions o old new (Ok p) = Goes o p old new × LacksOption p new.left
ReadsOptions o old new (Err why) = Refuses o old why

-- the word that a place begins with
abbrev pub place_name : PlaceWord → Bytes
place_name at.Point = codes "POINT"
place_name at.Bounds = codes "BOUNDS"
place_name at.Object = codes "OBJECT"

-- no place is next
abbrev pub LacksPlace : List Bytes → Type 0
LacksPlace left = (kind : PlaceWord) → IsNot (place_name kind) left

-- the word of a place was read; or none was, and none is next
abbrev pub TakesPlace : Place → Place → Option PlaceWord → Type 0
TakesPlace old new (Some kind) = Took (place_name kind) old new true
TakesPlace old new None = (new ≡ old) × LacksPlace old.left

-- the place behind these options was read
abbrev pub ReadsPlace : SetOptions → Place → Place → Result (Bytes × Shape) CommandFault → Type 0
ReadsPlace o old new (Ok at) = Moves old new
    × ((next : SetOptions → Bytes × Shape → Form Command) → Follows old (options_and_place o next) → Follows new (next o at))
ReadsPlace o old new (Err why) = Refuses o old why

-- what marks a field of this value: 1 where no field has it, and else 0
abbrev pub mark_of : Value → Value
mark_of v = if is_no_value v then Whole (pos 1) else zero_value

-- FSET: one more field, and the fields behind those that were read
abbrev pub field_step : List Field → Form (List Field)
field_step given = field >>= λ f. done (given ++ f ∷ [])

abbrev pub fields_more : (List Field → Command) → List Field → Form Command
fields_more make given = repeated field_step given >>= λ all. done (make all)

abbrev pub fields_first : (List Field → Command) → Form Command
fields_first make = field >>= λ f. fields_more make (f ∷ [])

-- one field or more are all that is left, whatever they are for; or how all the words are refused; or memory ran out
abbrev pub ReadsFields : Place → Result (List Field) CommandFault → Type 0
ReadsFields old (Ok given) = (make : List Field → Command) → Follows old (fields_first make) → reads (all_words old) ≡ Ok (make given)
ReadsFields old (Err why) = (why ≡ Memory) ⊎ ((make : List Field → Command) → Follows old (fields_first make) → answers (all_words old) ≡ Err why)

-- the FSET of a key and an id, and these fields
abbrev pub fset_of : Bytes × Bytes → List Field → Command
fset_of k given = command.Object (of_object.Fset k.0 k.1 (nonzero_of given) (cleared_of given))
