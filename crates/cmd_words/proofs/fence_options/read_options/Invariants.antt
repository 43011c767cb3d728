use Rattle.std.proofs.Common.{length}
use Rattle.world_model.specs.Commands.{no_fence_options}
use Rattle.cmd_words.specs.Options.{Goes}
use Rattle.cmd_words.specs.FenceWords.{fence_table, IsApart}
use Rattle.cmd_words.proofs.fence_options.read_options.Given as goal

abbrev pub invariant-options : goal.invariant-options
invariant-options l = Goes (fence_table l.fn.near) no_fence_options l.options l.fn.reader l.reader × IsApart l.options

abbrev pub decreases-options : goal.decreases-options
decreases-options l = length l.reader.left
