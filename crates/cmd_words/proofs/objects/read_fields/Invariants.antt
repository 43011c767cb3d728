use Rattle.std.proofs.Common.{length}
use Rattle.cmd_words.proofs.FieldLists.{HasFields}
use Rattle.cmd_words.proofs.objects.read_fields.Given as goal

abbrev pub invariant-fields : goal.invariant-fields
invariant-fields l = HasFields l.fn.reader l.reader l.given.items

abbrev pub decreases-fields : goal.decreases-fields
decreases-fields l = length l.reader.left
