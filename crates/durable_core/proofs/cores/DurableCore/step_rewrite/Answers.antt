use Rattle.std.proofs.Common.{◌∙◌, sym, refl, subst}
use Rattle.world_model.specs.declared.events.Event.TheVariants as event
use Rattle.world_model.specs.declared.events.Outcome.TheVariants as outcome
use Rattle.world_model.specs.declared.events.CallOutcome.{CallOutcome}
use Rattle.world_model.specs.declared.events.CallOutcome.TheVariants as called
use Rattle.log_record.specs.Journals as log
use Rattle.durable_core.specs.Logged.{hall_of}
use Rattle.durable_core.specs.Kept.{LeadsTo}
use Rattle.durable_core.specs.Steps.{ended}
use Rattle.durable_core.specs.StepLaws.{fails}
use Rattle.durable_core.proofs.Going.{faulted, stays, stepped}
use Rattle.durable_core.proofs.cores.DurableCore.step_rewrite.Goals as goal

pub returns-then-is_stopped-clause-log : goal.returns-then-is_stopped-clause-log
returns-then-is_stopped-clause-log g c j keeps =
    let D = g.D.Disk in
    stays D.crashes D.seen D.images D.moment D.left_since g.met.D.Disk.as_read g.met.D.Disk.counts_now g.met.D.Disk.only_now c.args.self.now event.Rewrite j (sym c.is_stopped.ensures ∙ c.if-is_stopped.true)

pub returns-in_default-clause-log : goal.returns-in_default-clause-log
returns-in_default-clause-log g c j keeps =
    let D = g.D.Disk in
    let going = sym c.is_stopped.ensures ∙ c.if-is_stopped.false in
    stepped D.crashes D.seen D.images D.moment D.left_since g.met.D.Disk.as_read g.met.D.Disk.counts_now g.met.D.Disk.only_now c.args.self.now _ c.step.result j going c.in_default.not-LogFault c.step.ensures.ended refl keeps c.step.ensures.told
    (c.step.ensures.log j (keeps going).kept (keeps going).world)

pub returns-in-LogFault-clause-log : goal.returns-in-LogFault-clause-log
returns-in-LogFault-clause-log g c j keeps =
    let D = g.D.Disk in
    let old = c.args.self.now in
    let going = sym c.is_stopped.ensures ∙ c.if-is_stopped.false in
    let step = fails (hall_of old) _ event.Rewrite refl going refl refl in
    let leads = subst (λ (a : CallOutcome). LeadsTo D.crashes D.seen D.images D.moment D.left_since old.tail c.step.new.self (ended a) j (log.settled j)) c.in-LogFault.is (c.step.ensures.log j (keeps going).kept (keeps going).world) in
    faulted D.crashes D.seen D.images D.moment D.left_since g.met.D.Disk.as_read g.met.D.Disk.counts_now g.met.D.Disk.only_now called.LogFault old _ event.Rewrite (outcome.Answered called.LogFault) j (log.settled j) going refl step keeps c.step.ensures.told leads refl
