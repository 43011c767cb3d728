use Rattle.std.proofs.Common.{◌∙◌, sym, refl}
use Rattle.world_model.specs.declared.events.Event.TheVariants as event
use Rattle.world_model.specs.declared.events.Outcome.TheVariants as outcome
use Rattle.world_model.specs.declared.events.CallOutcome.TheVariants as called
use Rattle.world_model.specs.Outcomes.{take_outcome}
use Rattle.log_record.specs.Journals as log
use Rattle.durable_core.specs.Logged.{hall_of}
use Rattle.durable_core.specs.StepLaws.{fails, take_goes, takes_nothing}
use Rattle.durable_core.proofs.Going.{faulted, lifted, rests, settles, stays, take_hides}
use Rattle.durable_core.proofs.cores.DurableCore.take.Goals as goal

pub returns-then-is_stopped-clause-log : goal.returns-then-is_stopped-clause-log
returns-then-is_stopped-clause-log g c j keeps =
    let D = g.D.Disk in
    stays D.crashes D.seen D.images D.moment D.left_since g.met.D.Disk.as_read g.met.D.Disk.counts_now g.met.D.Disk.only_now c.args.self.now (event.Take c.args.session) j (sym c.is_stopped.ensures ∙ c.if-is_stopped.true)

pub returns-then-not-may_take-clause-log : goal.returns-then-not-may_take-clause-log
returns-then-not-may_take-clause-log g c j keeps =
    let D = g.D.Disk in
    let core = c.args.self.now.core in
    let event = event.Take c.args.session in
    let given = take_outcome c.take.result c.take.new.into.list in
    let going = sym c.is_stopped.ensures ∙ c.if-is_stopped.false in
    let step = lifted core.hall c.take.new.self.hall event given _ _ c.args.self.now.goes_on (c.take.ensures.stopped ∙ c.args.self.now.goes_on) going going c.take.ensures.step in
    let none = takes_nothing core.hall c.take.new.self.hall c.args.session given c.args.self.now.goes_on (λ may. absurd (cc (c.may_take.ensures.1 may, c.if-not-may_take.true))) c.take.ensures.step in
    rests D.crashes D.seen D.images D.moment D.left_since g.met.D.Disk.as_read g.met.D.Disk.counts_now g.met.D.Disk.only_now c.args.self.now _ event given j going step keeps refl refl (take_hides c.args.session given none)

pub returns-in-Ok-clause-log : goal.returns-in-Ok-clause-log
returns-in-Ok-clause-log g c j keeps =
    let D = g.D.Disk in
    let old = c.args.self.now in
    let event = event.Take c.args.session in
    let given = take_outcome c.take-in-Ok.result c.take-in-Ok.new.into.list in
    let going = sym c.is_stopped.ensures ∙ c.if-is_stopped.false in
    let step = lifted old.core.hall c.take-in-Ok.new.self.hall event given _ _ old.goes_on (c.take-in-Ok.ensures.stopped ∙ old.goes_on) going going c.take-in-Ok.ensures.step in
    settles D.crashes D.seen D.images D.moment D.left_since g.met.D.Disk.as_read g.met.D.Disk.counts_now g.met.D.Disk.only_now old _ event given j going going step keeps c.commit.ensures.told (c.in-Ok.ensures.log j (keeps going).kept) refl

pub returns-in-Err-clause-log : goal.returns-in-Err-clause-log
returns-in-Err-clause-log g c j keeps =
    let D = g.D.Disk in
    let old = c.args.self.now in
    let event = event.Take c.args.session in
    let going = sym c.is_stopped.ensures ∙ c.if-is_stopped.false in
    let step = fails (hall_of old) _ event refl going (take_goes (hall_of old) c.args.session (c.may_take.ensures.0 c.if-not-may_take.false)) refl in
    faulted D.crashes D.seen D.images D.moment D.left_since g.met.D.Disk.as_read g.met.D.Disk.counts_now g.met.D.Disk.only_now _ old _ event (outcome.Answered called.LogFault) j (log.settled j) going refl step keeps c.commit.ensures.told (c.in-Err.ensures.log j (keeps going).kept) refl
