use Rattle.journal.specs.KeptLaws.{kept_told, kept_now, kept_left, kept_generation}
use Rattle.journal.proofs.laws.kept_logs_hold.Goals as goal

pub returns-clause-told : goal.returns-clause-told
returns-clause-told g c batches copied kept =
    let D = g.D.Disk in
    let j = c.args.journal.now in
    kept_told (D.crashes j.disk) (D.seen j.disk) (D.images j.disk) j.log.side j.log.version j.log.generation j.log.gate j.rewriter batches copied kept

pub returns-clause-now : goal.returns-clause-now
returns-clause-now g c batches copied kept =
    let D = g.D.Disk in
    let j = c.args.journal.now in
    kept_now (D.crashes j.disk) (D.seen j.disk) (D.images j.disk) j.log.side j.log.version j.log.generation j.log.gate j.rewriter batches copied kept

pub returns-clause-images : goal.returns-clause-images
returns-clause-images g c batches copied kept =
    let D = g.D.Disk in
    let j = c.args.journal.now in
    kept_left (D.crashes j.disk) (D.seen j.disk) (D.images j.disk) j.log.side j.log.version j.log.generation j.log.gate j.rewriter batches copied kept

pub returns-clause-generation : goal.returns-clause-generation
returns-clause-generation g c batches copied kept =
    let D = g.D.Disk in
    let j = c.args.journal.now in
    kept_generation (D.crashes j.disk) (D.seen j.disk) (D.images j.disk) j.log.side j.log.version j.log.generation j.log.gate j.rewriter batches copied kept
