use Rattle.std.proofs.Common.{length}
use Rattle.cmd_words.specs.NameLists.{kind_of}
use Rattle.cmd_words.proofs.NameLists.{HasNames}
use Rattle.cmd_words.proofs.name_lists.read_names.Given as goal

abbrev pub invariant-names : goal.invariant-names
invariant-names l = HasNames (kind_of l.fn.kind) l.fn.reader l.reader l.names

abbrev pub decreases-names : goal.decreases-names
decreases-names l = length l.reader.left
