use Rattle.world_recovery.specs.Records.{held_records}
use Rattle.world_recovery.proofs.laws.logs_are_their_records.Goals as goal

pub returns : goal.returns
returns c = held_records
