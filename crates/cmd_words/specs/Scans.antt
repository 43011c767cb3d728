-- SCAN: its options, and its output.
use Rattle.std.specs.Prelude.{true}
use Rattle.byte_text.specs.Names.{Bytes}
use Rattle.world_model.specs.Grammar.{Form, ◌>>=◌, done, maybe}
use Rattle.world_model.specs.Commands.{SearchOptions, no_search_options, output, query_of, scan_rule}
use Rattle.world_data.specs.declared.queries.Shown.{Shown}
use Rattle.world_data.specs.declared.queries.Shown.TheVariants as shown
use Rattle.world_model.specs.declared.commands.Command.{Command}
use Rattle.world_model.specs.declared.commands.Command.TheVariants as command
use Rattle.world_model.specs.declared.search_commands.SearchCommand.TheVariants as of_search
use Rattle.cmd_words.specs.Options.{options_then}
use Rattle.cmd_words.specs.SearchWords.{search_table}

-- the SCAN that a key, the options and an output ask for
abbrev pub scan_of : Bytes → SearchOptions → Shown → Command
scan_of key o how = command.Search (of_search.Scan key (query_of o how (scan_rule o.down)))

-- an output behind the options
abbrev pub scan_output : Bytes → SearchOptions → Form Command
scan_output key o = maybe shown.Objects output >>= λ how. done (scan_of key o how)

-- what stands behind SCAN's key
abbrev pub behind_scan : Bytes → Form Command
behind_scan key = options_then (search_table true) no_search_options (scan_output key)
