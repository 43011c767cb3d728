use Rattle.std.proofs.Common.{◌∙◌, sym, refl}
use Rattle.world_model.specs.declared.events.Event.TheVariants as event
use Rattle.world_model.specs.Outcomes.{enter_outcome}
use Rattle.log_record.specs.AnswerLaws.{entering_says}
use Rattle.durable_core.proofs.Going.{lifted, rests, stays}
use Rattle.durable_core.proofs.cores.DurableCore.enter.Goals as goal

pub returns-then-is_stopped-clause-log : goal.returns-then-is_stopped-clause-log
returns-then-is_stopped-clause-log g c j keeps =
    let D = g.D.Disk in
    stays D.crashes D.seen D.images D.moment D.left_since g.met.D.Disk.as_read g.met.D.Disk.counts_now g.met.D.Disk.only_now c.args.self.now event.Enter j (sym c.is_stopped.ensures ∙ c.if-is_stopped.true)

pub returns-clause-log : goal.returns-clause-log
returns-clause-log g c j keeps =
    let D = g.D.Disk in
    let core = c.args.self.now.core in
    let going = sym c.is_stopped.ensures ∙ c.if-is_stopped.false in
    let step = lifted core.hall c.enter.new.self.hall event.Enter (enter_outcome c.enter.result) _ _ c.args.self.now.goes_on (c.enter.ensures.stopped ∙ c.args.self.now.goes_on) going going c.enter.ensures.step in
    rests D.crashes D.seen D.images D.moment D.left_since g.met.D.Disk.as_read g.met.D.Disk.counts_now g.met.D.Disk.only_now c.args.self.now _ event.Enter (enter_outcome c.enter.result) j going step keeps refl refl (entering_says c.enter.result).not_shown
