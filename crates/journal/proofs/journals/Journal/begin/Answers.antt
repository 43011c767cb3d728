use Rattle.outside.specs.CrashLaws.{begins}
use Rattle.journal.proofs.Steps.{kept_idle}
use Rattle.journal.proofs.journals.Journal.begin.Goals as goal

pub returns-then-self-clause-leaves : goal.returns-then-self-clause-leaves
returns-then-self-clause-leaves g c batches copied kept told = begins g.D.Disk.moment g.D.Disk.left_since c.args.self.now.disk _

pub returns-in-Ok-clause-kept : goal.returns-in-Ok-clause-kept
returns-in-Ok-clause-kept g c batches copied kept =
    let D = g.D.Disk in
    let j = c.args.self.now in
    c.in-Ok.ensures.kept batches copied (kept_idle (D.crashes j.disk) (D.seen j.disk) (D.images j.disk) j.log.side j.log.version j.log.generation j.log.gate j.rewriter batches copied c.requires.idle kept)

pub returns-in-Ok-clause-leaves : goal.returns-in-Ok-clause-leaves
returns-in-Ok-clause-leaves g c batches copied kept told =
    let D = g.D.Disk in
    let j = c.args.self.now in
    c.in-Ok.ensures.leaves batches copied (kept_idle (D.crashes j.disk) (D.seen j.disk) (D.images j.disk) j.log.side j.log.version j.log.generation j.log.gate j.rewriter batches copied c.requires.idle kept) told

pub returns-in-Err-clause-leaves : goal.returns-in-Err-clause-leaves
returns-in-Err-clause-leaves g c batches copied kept told =
    let D = g.D.Disk in
    let j = c.args.self.now in
    c.in-Err.ensures.leaves batches copied (kept_idle (D.crashes j.disk) (D.seen j.disk) (D.images j.disk) j.log.side j.log.version j.log.generation j.log.gate j.rewriter batches copied c.requires.idle kept) told
