use Rattle.std.proofs.Common.{◌∙◌, length, refl, ap, arith, inr}
use Rattle.std.proofs.lemmas.Result.{on_ok_weaker}
use Rattle.outside.specs.CrashLaws.{then, weaker}
use Rattle.log_sides.specs.Sealing.{written_short}
use Rattle.log_sides.specs.Texts.{committed, written}
use Rattle.journal.specs.Logs.{HoldsOf, HoldsRound}
use Rattle.journal.specs.Keeping.{new_gate}
use Rattle.journal.proofs.Steps.{kept_same, new_gate_small, written_fits}
use Rattle.journal.proofs.journals.Journal.commit_both.Goals as goal

pub mirror_batch-requires : goal.mirror_batch-requires
mirror_batch-requires g c =
    let j = c.args.self.now in
    omega (arith, written_fits j.log.pending (new_gate j.rewriter) (new_gate_small j.rewriter) j.fits, ap length (c.last_batch.ensures ∙ ap written c.in-Ok.ensures.last))

pub returns-in-Ok-clause-kept : goal.returns-in-Ok-clause-kept
returns-in-Ok-clause-kept g c batches copied kept =
    let D = g.D.Disk in
    let j = c.args.self.now in
    let log = c.commit_log.new.log in
    let new = c.mirror_batch.new.disk in
    let pending = j.log.pending in
    on_ok_weaker c.mirror_batch.result
    (λ done. kept_same (D.crashes new) (D.seen new) (D.images new) j.log.side log.side j.log.version log.version j.log.generation log.generation log.gate log.gate c.mirror_batch.new.rewriter (committed batches pending) (committed copied pending) c.in-Ok.ensures.side c.in-Ok.ensures.version c.in-Ok.ensures.generation refl done)
    (c.mirror_batch.ensures.kept j.log.side j.log.version j.log.generation log.gate (committed batches pending) copied pending (c.last_batch.ensures ∙ ap written c.in-Ok.ensures.last) (c.in-Ok.ensures.kept j.rewriter batches copied kept))

pub returns-in-Ok-clause-leaves : goal.returns-in-Ok-clause-leaves
returns-in-Ok-clause-leaves g c batches copied kept told =
    let D = g.D.Disk in
    let j = c.args.self.now in
    let log = c.commit_log.new.log in
    let mid = c.commit_log.new.disk in
    let new = c.mirror_batch.new.disk in
    let all = committed batches j.log.pending in
    then D.moment D.left_since j.disk mid new (HoldsRound j.log.version j.log.generation batches all) (c.in-Ok.ensures.leaves j.rewriter batches copied kept told)
    (weaker D.moment D.left_since mid new (HoldsOf j.log.version j.log.generation all) (HoldsRound j.log.version j.log.generation batches all) (λ x holds. inr holds)
    (c.mirror_batch.ensures.leaves j.log.side j.log.version j.log.generation log.gate all copied (c.in-Ok.ensures.kept j.rewriter batches copied kept) (c.in-Ok.ensures.told ∙ told)))

pub returns-in-Ok-clause-new_gate : goal.returns-in-Ok-clause-new_gate
returns-in-Ok-clause-new_gate g c =
    let pending = c.args.self.now.log.pending in
    on_ok_weaker c.mirror_batch.result (λ grown. omega (arith, grown, written_short pending, ap length (c.last_batch.ensures ∙ ap written c.in-Ok.ensures.last))) c.mirror_batch.ensures.gate

pub returns-in-Ok-clause-gate : goal.returns-in-Ok-clause-gate
returns-in-Ok-clause-gate g c = on_ok_weaker c.mirror_batch.result (λ done. c.in-Ok.ensures.gate) c.mirror_batch.ensures.gate
