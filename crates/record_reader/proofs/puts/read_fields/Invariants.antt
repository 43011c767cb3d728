use Rattle.std.proofs.Common.{length}
use Rattle.record_reader.proofs.FieldLists.{Goes}
use Rattle.record_reader.proofs.puts.read_fields.Given as goal

abbrev pub invariant-each : goal.invariant-each
invariant-each l = Goes l.fn.reader l.fields l.reader

abbrev pub decreases-each : goal.decreases-each
decreases-each l = length l.reader
