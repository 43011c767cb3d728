use Rattle.outside.specs.CrashLaws.{begins}
use Rattle.journal.proofs.journals.Journal.read.Goals as goal

pub returns-then-self-clause-leaves : goal.returns-then-self-clause-leaves
returns-then-self-clause-leaves g c batches copied kept told = begins g.D.Disk.moment g.D.Disk.left_since c.args.self.now.disk _

pub returns-in-Ok-clause-bytes : goal.returns-in-Ok-clause-bytes
returns-in-Ok-clause-bytes g c batches copied kept = c.in-Ok.ensures.bytes c.args.self.now.rewriter batches copied kept

pub returns-in-Ok-clause-kept : goal.returns-in-Ok-clause-kept
returns-in-Ok-clause-kept g c batches copied kept = c.in-Ok.ensures.kept c.args.self.now.rewriter batches copied kept

pub returns-in-Ok-clause-leaves : goal.returns-in-Ok-clause-leaves
returns-in-Ok-clause-leaves g c batches copied kept told = c.in-Ok.ensures.leaves c.args.self.now.rewriter batches copied kept told

pub returns-in-Err-clause-leaves : goal.returns-in-Err-clause-leaves
returns-in-Err-clause-leaves g c batches copied kept told = c.in-Err.ensures.leaves c.args.self.now.rewriter batches copied kept told
