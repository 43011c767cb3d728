use Rattle.std.proofs.Common.{length}
use Rattle.cmd_words.specs.Sets.{no_options, Goes}
use Rattle.cmd_words.proofs.set_options.read_options.Given as goal

abbrev pub invariant-options : goal.invariant-options
invariant-options l = Goes no_options l.options l.fn.reader l.reader

abbrev pub decreases-options : goal.decreases-options
decreases-options l = length l.reader.left
