use Rattle.std.proofs.Common.{◌∙◌, refl, subst, sym}
use Rattle.world_model.specs.declared.events.CallOutcome.TheVariants as called
use Rattle.world_model.specs.declared.events.Event.TheVariants as event
use Rattle.world_model.specs.declared.events.Outcome.TheVariants as outcome
use Rattle.journal.specs.KeptLaws.{kept_generation, kept_told}
use Rattle.log_record.specs.Journals as log
use Rattle.log_record.specs.Recovery.{Recovers}
use Rattle.durable_core.specs.Logged.{hall_of}
use Rattle.durable_core.specs.StepLaws.{does, fails}
use Rattle.durable_core.proofs.Going.{faulted, reads, retires, stays}
use Rattle.durable_core.proofs.cores.DurableCore.retire.Goals as goal

pub returns-then-is_stopped-clause-log : goal.returns-then-is_stopped-clause-log
returns-then-is_stopped-clause-log g c j keeps =
    let D = g.D.Disk in
    stays D.crashes D.seen D.images D.moment D.left_since g.met.D.Disk.as_read g.met.D.Disk.counts_now g.met.D.Disk.only_now c.args.self.now event.Retire j (sym c.is_stopped.ensures ∙ c.if-is_stopped.true)

pub returns-in-Ok-clause-log : goal.returns-in-Ok-clause-log
returns-in-Ok-clause-log g c j keeps =
    let D = g.D.Disk in
    let old = c.args.self.now in
    let going = sym c.is_stopped.ensures ∙ c.if-is_stopped.false in
    let step = does (hall_of old) _ event.Retire going refl refl in
    retires D.crashes D.seen D.images D.moment D.left_since g.met.D.Disk.as_read g.met.D.Disk.counts_now g.met.D.Disk.only_now old _ j going refl refl step keeps c.commit.ensures.told (c.in-Ok.ensures.log j (keeps going).kept)

pub returns-in-Ok-clause-left : goal.returns-in-Ok-clause-left
returns-in-Ok-clause-left g c j keeps _ =
    let D = g.D.Disk in
    let of = keeps (sym c.is_stopped.ensures ∙ c.if-is_stopped.false) in
    let kept = (c.in-Ok.ensures.log j of.kept).kept in
    let told = kept_told _ _ _ _ _ _ _ _ kept.batches kept.copied kept.keeps in
    (told.0, told.1, subst (Recovers told.0) (sym of.world) (reads D.crashes D.seen D.images c.commit.new.self (log.settled j) kept told.0 told.1))

pub returns-in-Err-clause-log : goal.returns-in-Err-clause-log
returns-in-Err-clause-log g c j keeps =
    let D = g.D.Disk in
    let old = c.args.self.now in
    let going = sym c.is_stopped.ensures ∙ c.if-is_stopped.false in
    let step = fails (hall_of old) _ event.Retire refl going refl refl in
    faulted D.crashes D.seen D.images D.moment D.left_since g.met.D.Disk.as_read g.met.D.Disk.counts_now g.met.D.Disk.only_now _ old _ event.Retire (outcome.Answered called.LogFault) j (log.settled j) going refl step keeps c.commit.ensures.told (c.in-Err.ensures.log j (keeps going).kept) refl

pub returns-in-Ok-clause-found : goal.returns-in-Ok-clause-found
returns-in-Ok-clause-found g c j keeps _ s told =
    let of = keeps (sym c.is_stopped.ensures ∙ c.if-is_stopped.false) in
    let kept = (c.in-Ok.ensures.log j of.kept).kept in
    kept_generation _ _ _ _ _ _ _ _ kept.batches kept.copied kept.keeps s told
