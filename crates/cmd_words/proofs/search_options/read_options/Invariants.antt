use Rattle.std.proofs.Common.{length}
use Rattle.world_model.specs.Commands.{no_search_options}
use Rattle.cmd_words.specs.Options.{Goes}
use Rattle.cmd_words.specs.SearchWords.{search_table}
use Rattle.cmd_words.proofs.search_options.read_options.Given as goal

abbrev pub invariant-options : goal.invariant-options
invariant-options l = Goes (search_table l.fn.ordered) no_search_options l.options l.fn.reader l.reader

abbrev pub decreases-options : goal.decreases-options
decreases-options l = length l.reader.left
