use Rattle.outside.specs.CrashLaws.{begins}
use Rattle.journal.proofs.log_reads.replay_log.Goals as goal

pub returns-in_default-clause-leaves : goal.returns-in_default-clause-leaves
returns-in_default-clause-leaves g c s told crashes = begins g.D.Disk.moment g.D.Disk.left_since c.args.disk.now _
