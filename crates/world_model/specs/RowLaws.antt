-- What holds of the words behind each name holds of the table.
use Rattle.std.specs.Prelude.{List, [], ◌∷◌, ◌++◌, map}
use Rattle.std.specs.List.{AllByRecursion}
use Rattle.ordered_lists.specs.Reading.{each-append}
use Rattle.world_model.specs.Commands.{Row, form_of, object_rows, search_rows, channel_rows, session_rows, command_rows}
use Rattle.world_model.specs.Grammar.{one_of, word}
use Rattle.world_model.specs.MadeForms.{Makes, makes_none, makes_or, makes_then}
use Rattle.world_model.specs.declared.commands.Command.{Command}

-- the rows of every family
pub of_families : (P : Row → Type 0) → AllByRecursion P object_rows → AllByRecursion P search_rows → AllByRecursion P channel_rows
    → AllByRecursion P session_rows
    → AllByRecursion P command_rows
of_families P objects searches channels sessions =
    each-append P object_rows (search_rows ++ channel_rows ++ session_rows) objects (
    each-append P search_rows (channel_rows ++ session_rows) searches (each-append P channel_rows session_rows channels sessions))

-- what the words behind each name spell has a property: so has what the rows spell
pub makes_rows : (P : Command → Type 0) (rows : List Row) → AllByRecursion (λ r. Makes P r.behind) rows → Makes P (one_of (map form_of rows))
makes_rows P [] all = makes_none P
makes_rows P (r ∷ rows) all = makes_or P (form_of r) (one_of (map form_of rows)) (makes_then P (word r.called) r.behind all.0) (makes_rows P rows all.1)
