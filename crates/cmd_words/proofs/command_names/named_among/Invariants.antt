use Rattle.std.proofs.Common.{take}
use Rattle.cmd_words.specs.CommandNames.{AreOthers}
use Rattle.cmd_words.proofs.command_names.named_among.Given as goal

abbrev pub invariant-loop-row : goal.invariant-loop-row
invariant-loop-row l = AreOthers l.called (take l.row-index l.rows)
