use Rattle.std.proofs.Common.{◌∙◌, sym, refl, subst}
use Rattle.std.proofs.lemmas.Bool.{not-true}
use Rattle.world_model.specs.Halls.{Hall}
use Rattle.world_model.specs.declared.events.Event.TheVariants as event
use Rattle.world_model.specs.declared.events.Outcome.TheVariants as outcome
use Rattle.world_model.specs.declared.events.CallOutcome.TheVariants as called
use Rattle.tile_core.specs.RecordSinks.{IsRecordedBy}
use Rattle.durable_core.specs.Kept.{HasPushed}
use Rattle.durable_core.specs.Logged.{hall_of}
use Rattle.durable_core.specs.StepLaws.{tick_goes, fails, same_hall}
use Rattle.durable_core.proofs.Going.{faulted, led, lifted, served, stays}
use Rattle.durable_core.proofs.cores.DurableCore.tick_with.Goals as goal

pub returns-then-is_stopped-clause-log : goal.returns-then-is_stopped-clause-log
returns-then-is_stopped-clause-log g c j keeps =
    let D = g.D.Disk in
    stays D.crashes D.seen D.images D.moment D.left_since g.met.D.Disk.as_read g.met.D.Disk.counts_now g.met.D.Disk.only_now c.args.self.now (event.Tick c.args.moment) j (sym c.is_stopped.ensures ∙ c.if-is_stopped.true)

pub returns-in-Ok-clause-log : goal.returns-in-Ok-clause-log
returns-in-Ok-clause-log g c j keeps =
    let D = g.D.Disk in
    let old = c.args.self.now in
    let event = event.Tick c.args.moment in
    let answer = c.tick_with.result in
    let going = sym c.is_stopped.ensures ∙ c.if-is_stopped.false in
    let took = led D.crashes D.seen D.images D.moment D.left_since g.met.D.Disk.as_read g.met.D.Disk.counts_now g.met.D.Disk.only_now c.commit_long.new.self c.tick_with.new.ledger (hall_of old) event answer
    (λ is. subst (λ (h : Hall). IsRecordedBy (HasPushed D.crashes D.seen D.images) h event c.commit_long.new.self c.tick_with.new.ledger)
    (sym (same_hall old.core.hall _ (old.goes_on ∙ sym going))) (c.tick_with.ensures.recorded is)) c.tick_with.ensures.unrecorded in
    let step = lifted old.core.hall c.tick_with.new.self.hall event (outcome.Answered answer) _ _ old.goes_on (c.tick_with.ensures.stopped ∙ old.goes_on) going going c.tick_with.ensures.step in
    let leads = c.in-Ok.ensures.log j (keeps going).kept in
    served D.crashes D.seen D.images D.moment D.left_since g.met.D.Disk.as_read g.met.D.Disk.counts_now g.met.D.Disk.only_now old _ c.commit_long.new.self _ event answer j leads.0 going step keeps c.commit_long.ensures.told leads.1 took refl (λ v copied batches copies. copies) refl

pub returns-in-Err-clause-log : goal.returns-in-Err-clause-log
returns-in-Err-clause-log g c j keeps =
    let D = g.D.Disk in
    let old = c.args.self.now in
    let event = event.Tick c.args.moment in
    let going = sym c.is_stopped.ensures ∙ c.if-is_stopped.false in
    let step = fails (hall_of old) _ event refl going (tick_goes (hall_of old) c.args.moment (sym c.is_spent.ensures ∙ not-true c.is_spent.result c.in-Err.ensures.may)) refl in
    let leads = c.in-Err.ensures.log j (keeps going).kept in
    faulted D.crashes D.seen D.images D.moment D.left_since g.met.D.Disk.as_read g.met.D.Disk.counts_now g.met.D.Disk.only_now _ old _ event (outcome.Answered called.LogFault) j leads.0 going refl step keeps c.commit_long.ensures.told leads.1 refl
