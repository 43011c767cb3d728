use Rattle.std.proofs.Common.{subst}
use Rattle.byte_text.specs.Names.{Bytes}
use Rattle.outside.specs.CrashLaws.{begins}
use Rattle.log_sides.specs.Texts.{committed}
use Rattle.journal.specs.Keeping.{IsKept}
use Rattle.journal.proofs.journals.Journal.copy.Goals as goal

pub returns-then-self-clause-leaves : goal.returns-then-self-clause-leaves
returns-then-self-clause-leaves g c batches copied kept told = begins g.D.Disk.moment g.D.Disk.left_since c.args.self.now.disk _

pub returns-in-Ok-clause-kept : goal.returns-in-Ok-clause-kept
returns-in-Ok-clause-kept g c batches copied kept =
    let D = g.D.Disk in
    let j = c.args.self.now in
    let new = c.copy_records.new.disk in
    subst (λ (l : Bytes). IsKept (D.crashes new) (D.seen new) (D.images new) j.log.side j.log.version j.log.generation j.log.gate c.copy_records.new.rewriter batches (committed copied l)) c.records.ensures
    (c.in-Ok.ensures.kept j.log.side j.log.version j.log.generation j.log.gate batches copied kept)

pub returns-in-Ok-clause-leaves : goal.returns-in-Ok-clause-leaves
returns-in-Ok-clause-leaves g c batches copied kept told =
    let j = c.args.self.now in
    c.in-Ok.ensures.leaves j.log.side j.log.version j.log.generation j.log.gate batches copied kept told

pub returns-in-Err-clause-leaves : goal.returns-in-Err-clause-leaves
returns-in-Err-clause-leaves g c batches copied kept told =
    let j = c.args.self.now in
    c.in-Err.ensures.leaves j.log.side j.log.version j.log.generation j.log.gate batches copied kept told
