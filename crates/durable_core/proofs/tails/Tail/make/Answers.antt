use Rattle.std.proofs.Common.{subst}
use Rattle.std.proofs.lemmas.Result.{on_ok_weaker}
use Rattle.journal.specs.Keeping.{new_gate}
use Rattle.durable_core.specs.Steps.{IsNextStep}
use Rattle.durable_core.specs.Written.{KeepsSided}
use Rattle.durable_core.specs.declared.steps.RewriteStep.TheVariants.{Copy}
use Rattle.durable_core.proofs.Sides.{next_sided}
use Rattle.durable_core.proofs.NextSteps.{copy_generation, copy_rewriting, copy_shown, copy_version, on_ok}
use Rattle.durable_core.proofs.tails.Tail.make.Goals as goal

pub returns-in-Copy-clause-shown : goal.returns-in-Copy-clause-shown
returns-in-Copy-clause-shown g c w is =
    let old = c.args.self.now in
    let gate = new_gate old.journal.rewriter in
    let copies = subst (IsNextStep old.rewriting gate w) c.in-Copy.is is in
    on_ok_weaker c.copy.result (copy_shown old.rewriting c.copy.new.self.rewriting gate w c.in-Copy.next copies) c.copy.ensures.rewriting

pub returns-in-Copy-clause-generation : goal.returns-in-Copy-clause-generation
returns-in-Copy-clause-generation g c w is =
    let old = c.args.self.now in
    let gate = new_gate old.journal.rewriter in
    let copies = subst (IsNextStep old.rewriting gate w) c.in-Copy.is is in
    on_ok c.copy.result (copy_generation old.rewriting gate w c.in-Copy.next c.copy.new.self.journal.log.generation old.journal.log.generation copies c.copy.ensures.generation)

pub returns-in-Copy-clause-version : goal.returns-in-Copy-clause-version
returns-in-Copy-clause-version g c w is =
    let old = c.args.self.now in
    let gate = new_gate old.journal.rewriter in
    let copies = subst (IsNextStep old.rewriting gate w) c.in-Copy.is is in
    on_ok c.copy.result (copy_version old.rewriting gate w c.in-Copy.next c.copy.new.self.journal.log.version old.journal.log.version copies c.copy.ensures.version)

pub returns-in-Copy-clause-written : goal.returns-in-Copy-clause-written
returns-in-Copy-clause-written g c w s is keeps =
    let D = g.D.Disk in
    let old = c.args.self.now in
    let gate = new_gate old.journal.rewriter in
    let copies = subst (IsNextStep old.rewriting gate w) c.in-Copy.is is in
    on_ok_weaker c.copy.result (subst (KeepsSided D.crashes D.seen D.images c.copy.new.self.journal) (next_sided old.rewriting gate w (Copy c.in-Copy.next) s copies)) (c.copy.ensures.written s keeps)

pub returns-in-Copy-clause-rewriting : goal.returns-in-Copy-clause-rewriting
returns-in-Copy-clause-rewriting g c w is =
    let old = c.args.self.now in
    let gate = new_gate old.journal.rewriter in
    let copies = subst (IsNextStep old.rewriting gate w) c.in-Copy.is is in
    on_ok_weaker c.copy.result (copy_rewriting old.rewriting c.copy.new.self.rewriting gate w c.in-Copy.next copies) c.copy.ensures.rewriting

pub returns-in-Begin-clause-log : goal.returns-in-Begin-clause-log
returns-in-Begin-clause-log g c j kept next = c.begin.ensures.log j kept
