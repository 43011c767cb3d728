use Rattle.outside.specs.CrashLaws.{begins}
use Rattle.journal.proofs.journals.Journal.commit.Goals as goal

pub returns-then-self-clause-leaves : goal.returns-then-self-clause-leaves
returns-then-self-clause-leaves g c batches copied kept told = begins g.D.Disk.moment g.D.Disk.left_since c.args.self.now.disk _
