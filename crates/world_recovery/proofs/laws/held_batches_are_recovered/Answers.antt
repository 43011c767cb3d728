use Rattle.world_recovery.specs.BatchesHeld.{held_recovers, either_recovers}
use Rattle.world_recovery.proofs.laws.held_batches_are_recovered.Goals as goal

pub returns-clause-held : goal.returns-clause-held
returns-clause-held c = held_recovers

pub returns-clause-either : goal.returns-clause-either
returns-clause-either c = either_recovers
