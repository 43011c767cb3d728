use Rattle.std.proofs.Common.{rules}
use Rattle.outside.specs.Writing.{written_more, written_part}
use Rattle.outside.proofs.writes.write_all.Goals as goal

pub loop-rest-preserved : goal.loop-rest-preserved
loop-rest-preserved g c = record { written = written_more _ _ _ _ _ _ c.loop-rest.invariant.written c.in-Ok.ensures.bytes; later = search rules }

pub returns-in-Err-clause-part : goal.returns-in-Err-clause-part
returns-in-Err-clause-part g c = written_part _ _ _ _ _ c.loop-rest.invariant.written c.in-Err.ensures.bytes
