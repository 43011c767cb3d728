use Rattle.world_recovery.specs.BatchesHeld.{committed_world, committed_whole}
use Rattle.world_recovery.proofs.laws.commits_make_changes.Goals as goal

pub returns-clause-world : goal.returns-clause-world
returns-clause-world c = committed_world

pub returns-clause-whole : goal.returns-clause-whole
returns-clause-whole c = committed_whole
