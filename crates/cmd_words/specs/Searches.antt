-- WITHIN, INTERSECTS and NEARBY: what stands behind their options.
use Rattle.std.specs.Prelude.{◌≡◌, ◌⊎◌, ℕ, false, Option, Some, None, Result, Ok, Err, codes}
use Rattle.byte_text.specs.Names.{Bytes}
use Rattle.planar_geom.specs.Points.{Point}
use Rattle.world_model.specs.Grammar.{Form, ◌>>=◌, ◌>>◌, ◌or◌, done, maybe, word}
use Rattle.world_model.specs.Kinds.{meters, lat_lon, four}
use Rattle.world_model.specs.Commands.{AreaRead, SearchOptions, no_search_options, output, query_of, reads}
use Rattle.world_data.specs.declared.channels.Kind.{Kind}
use Rattle.world_data.specs.declared.queries.Rule.TheVariants.{InArea, Nearest}
use Rattle.world_data.specs.declared.queries.Shown.{Shown}
use Rattle.world_data.specs.declared.queries.Shown.TheVariants as shown
use Rattle.world_model.specs.declared.commands.Command.{Command}
use Rattle.world_model.specs.declared.commands.Command.TheVariants as command
use Rattle.world_model.specs.declared.search_commands.SearchCommand.TheVariants as of_search
use Rattle.cmd_words.specs.Progress.{Place, Follows, all_words, answers}
use Rattle.cmd_words.specs.Options.{options_then}
use Rattle.cmd_words.specs.SearchWords.{search_table}
use Rattle.cmd_words.specs.Areas.{an_area, box_area}
use Rattle.cmd_words.specs.declared.faults.CommandFault.{CommandFault}
use Rattle.cmd_words.specs.declared.faults.CommandFault.TheVariants.{Memory}

-- an output or none, and an area
abbrev pub output_and_area : (Shown × AreaRead → Form Command) → Form Command
output_and_area next = maybe shown.Objects output >>= λ how. an_area (λ a. next (how, a))

-- behind the word BOUNDS, which is an output where an area is next, and else an area itself
abbrev pub box_or_area : (Shown × AreaRead → Form Command) → Form Command
box_or_area next = (four >>= λ b. next (shown.Objects, box_area b)) or an_area (λ a. next (shown.Bounds, a))

-- the search of a key that the options, an output and an area ask for
abbrev pub search_of : Kind → Bytes → SearchOptions → Shown × AreaRead → Command
search_of kind key o x = command.Search (of_search.Area key (query_of o x.0 (InArea kind x.1.area)) x.1.from)

-- what stands behind the key of WITHIN or INTERSECTS
abbrev pub search_area : Kind → Bytes → SearchOptions → Form Command
search_area kind key o = output_and_area (λ x. done (search_of kind key o x))

abbrev pub behind_search : Kind → Bytes → Form Command
behind_search kind key = options_then (search_table false) no_search_options (search_area kind key)

-- POINT and a point
abbrev pub a_point : (Point → Form Command) → Form Command
a_point next = word (codes "POINT") >> (lat_lon >>= next)

-- an output or none, and a point
abbrev pub output_and_point : (Shown × Point → Form Command) → Form Command
output_and_point next = maybe shown.Objects output >>= λ how. a_point (λ at. next (how, at))

-- meters or none, at the end of a command
abbrev pub reach_of : (Option ℕ → Command) → Form Command
reach_of make = maybe None (meters >>= λ r. done (Some r)) >>= λ reach. done (make reach)

-- the meters or none are all that is left, whatever they are for; or how all the words are refused; or memory ran out
abbrev pub ReadsReach : Place → Result (Option ℕ) CommandFault → Type 0
ReadsReach old (Ok reach) = (make : Option ℕ → Command) → Follows old (reach_of make) → reads (all_words old) ≡ Ok (make reach)
ReadsReach old (Err why) = (why ≡ Memory) ⊎ ((make : Option ℕ → Command) → Follows old (reach_of make) → answers (all_words old) ≡ Err why)

-- the NEARBY that a key, the options, an output, a point and meters ask for
abbrev pub nearby_of : Bytes → SearchOptions → Shown × Point → Option ℕ → Command
nearby_of key o x reach = command.Search (of_search.Nearby key (query_of o x.0 Nearest) x.1 reach)

-- what stands behind NEARBY's key
abbrev pub nearby_point : Bytes → SearchOptions → Form Command
nearby_point key o = output_and_point (λ x. reach_of (nearby_of key o x))

abbrev pub behind_nearby : Bytes → Form Command
behind_nearby key = options_then (search_table false) no_search_options (nearby_point key)
