use Rattle.log_record.specs.EventWriteLaws.{steps_make_their_writes}
use Rattle.log_record.proofs.laws.steps_make_their_writes.Goals as goal

pub returns : goal.returns
returns c = steps_make_their_writes
