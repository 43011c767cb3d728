use Rattle.log_record.specs.Journals as log
use Rattle.durable_core.proofs.tails.Tail.commit_long.Goals as goal

pub returns-then-pending-ge-PENDING-clause-log : goal.returns-then-pending-ge-PENDING-clause-log
returns-then-pending-ge-PENDING-clause-log g c j kept = (log.settled j, c.commit.ensures.log j kept)
