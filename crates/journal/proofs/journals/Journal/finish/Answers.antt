use Rattle.std.proofs.Common.{◌≡◌, ◌∙◌, Option, None, Some, sym, subst}
use Rattle.outside.specs.CrashLaws.{begins}
use Rattle.log_sides.specs.Texts.{newest}
use Rattle.log_rewrite.specs.declared.rewriters.Rewriter.{Rewriter}
use Rattle.journal.specs.Keeping.{IsKept}
use Rattle.journal.proofs.Steps.{kept_same}
use Rattle.journal.proofs.journals.Journal.finish.Goals as goal

pub returns-then-self-clause-leaves : goal.returns-then-self-clause-leaves
returns-then-self-clause-leaves g c batches copied kept told = begins g.D.Disk.moment g.D.Disk.left_since c.args.self.now.disk _

pub returns-in-Ok-clause-kept : goal.returns-in-Ok-clause-kept
returns-in-Ok-clause-kept g c batches copied any kept =
    let D = g.D.Disk in
    let j = c.args.self.now in
    let old = j.disk in
    let new = c.open_new.new.disk in
    let made = c.in-Ok.made in
    let log = c.turn_to.new.self in
    let is : j.rewriter ≡ Some c.in-Some.rewriter = sym c.take.ensures.value ∙ c.in-Some.is in
    let going = subst (λ (o : Option Rewriter). IsKept (D.crashes old) (D.seen old) (D.images old) j.log.side j.log.version j.log.generation j.log.gate o batches copied) is kept in
    subst (λ (o : Option Rewriter). IsKept (D.crashes new) (D.seen new) (D.images new) log.side log.version log.generation log.gate o copied any) (sym c.take.ensures.after)
    (kept_same (D.crashes new) (D.seen new) (D.images new) made.side log.side newest log.version made.generation log.generation made.gate log.gate None copied any c.turn_to.ensures.side c.turn_to.ensures.version c.turn_to.ensures.generation c.turn_to.ensures.gate
    (c.in-Ok.ensures.kept j.log.side j.log.version j.log.generation j.log.gate batches copied any going))

pub returns-in-Ok-clause-leaves : goal.returns-in-Ok-clause-leaves
returns-in-Ok-clause-leaves g c batches copied kept told =
    let D = g.D.Disk in
    let j = c.args.self.now in
    let old = j.disk in
    let is : j.rewriter ≡ Some c.in-Some.rewriter = sym c.take.ensures.value ∙ c.in-Some.is in
    c.in-Ok.ensures.leaves j.log.side j.log.version j.log.generation j.log.gate batches copied
    (subst (λ (o : Option Rewriter). IsKept (D.crashes old) (D.seen old) (D.images old) j.log.side j.log.version j.log.generation j.log.gate o batches copied) is kept) told

pub returns-in-Err-clause-leaves : goal.returns-in-Err-clause-leaves
returns-in-Err-clause-leaves g c batches copied kept told =
    let D = g.D.Disk in
    let j = c.args.self.now in
    let old = j.disk in
    let is : j.rewriter ≡ Some c.in-Some.rewriter = sym c.take.ensures.value ∙ c.in-Some.is in
    c.in-Err.ensures.leaves j.log.side j.log.version j.log.generation j.log.gate batches copied
    (subst (λ (o : Option Rewriter). IsKept (D.crashes old) (D.seen old) (D.images old) j.log.side j.log.version j.log.generation j.log.gate o batches copied) is kept) told
