use Rattle.std.proofs.Common.{◌∙◌, sym, refl, subst}
use Rattle.world_model.specs.Halls.{Hall}
use Rattle.world_model.specs.declared.events.Event.TheVariants as event
use Rattle.world_model.specs.declared.events.Outcome.TheVariants as outcome
use Rattle.world_model.specs.declared.events.CallOutcome.TheVariants as called
use Rattle.tile_core.specs.RecordSinks.{IsRecordedBy}
use Rattle.durable_core.specs.Kept.{HasPushed}
use Rattle.durable_core.specs.Logged.{hall_of}
use Rattle.durable_core.specs.StepLaws.{call_goes, fails, same_hall}
use Rattle.durable_core.specs.Rewriting.{IsCopyWhile}
use Rattle.durable_core.specs.declared.rewritings.Rewriting.{Rewriting}
use Rattle.durable_core.proofs.Copying.{copies_asked}
use Rattle.durable_core.proofs.Going.{faulted, led, lifted, served, stays}
use Rattle.durable_core.proofs.cores.DurableCore.call_with.Goals as goal

pub returns-then-is_stopped-clause-log : goal.returns-then-is_stopped-clause-log
returns-then-is_stopped-clause-log g c j keeps =
    let D = g.D.Disk in
    stays D.crashes D.seen D.images D.moment D.left_since g.met.D.Disk.as_read g.met.D.Disk.counts_now g.met.D.Disk.only_now c.args.self.now (event.Call c.args.session c.args.moment c.args.asked.now) j (sym c.is_stopped.ensures ∙ c.if-is_stopped.true)

pub returns-in-Ok-clause-log : goal.returns-in-Ok-clause-log
returns-in-Ok-clause-log g c j keeps =
    let D = g.D.Disk in
    let old = c.args.self.now in
    let event = event.Call c.args.session c.args.moment c.args.asked.now in
    let answer = c.call_with-called.result in
    let going = sym c.is_stopped.ensures ∙ c.if-is_stopped.false in
    let took = led D.crashes D.seen D.images D.moment D.left_since g.met.D.Disk.as_read g.met.D.Disk.counts_now g.met.D.Disk.only_now c.commit_long.new.self c.call_with-called.new.ledger (hall_of old) event answer
    (λ is. subst (λ (h : Hall). IsRecordedBy (HasPushed D.crashes D.seen D.images) h event c.commit_long.new.self c.call_with-called.new.ledger)
    (sym (same_hall old.core.hall _ (old.goes_on ∙ sym going))) (c.call_with-called.ensures.recorded is)) c.call_with-called.ensures.unrecorded in
    let step = lifted old.core.hall c.call_with-called.new.self.hall event (outcome.Answered answer) _ _ old.goes_on (c.call_with-called.ensures.stopped ∙ old.goes_on) going going c.call_with-called.ensures.step in
    let leads = c.in-Ok.ensures.log j (keeps going).kept in
    served D.crashes D.seen D.images D.moment D.left_since g.met.D.Disk.as_read g.met.D.Disk.counts_now g.met.D.Disk.only_now old _ c.commit_long.new.self c.call_with-called.new.ledger event answer j leads.0 going step keeps c.commit_long.ensures.told leads.1 took c.note.ensures.journal
    (λ v copied batches copies. subst (λ (r : Rewriting). IsCopyWhile r v copied batches) (sym c.note.ensures.rewriting) (copies_asked answer _ _ c.call_with-called.new.ledger.rewriting v copied batches copies)) refl

pub returns-in-Err-clause-log : goal.returns-in-Err-clause-log
returns-in-Err-clause-log g c j keeps =
    let D = g.D.Disk in
    let old = c.args.self.now in
    let event = event.Call c.args.session c.args.moment c.args.asked.now in
    let going = sym c.is_stopped.ensures ∙ c.if-is_stopped.false in
    let step = fails (hall_of old) _ event refl going (call_goes (hall_of old) c.args.session c.args.moment c.args.asked.now (c.may_call.ensures.0 c.in-Err.ensures.may)) refl in
    let leads = c.in-Err.ensures.log j (keeps going).kept in
    faulted D.crashes D.seen D.images D.moment D.left_since g.met.D.Disk.as_read g.met.D.Disk.counts_now g.met.D.Disk.only_now _ old _ event (outcome.Answered called.LogFault) j leads.0 going refl step keeps c.commit_long.ensures.told leads.1 refl
