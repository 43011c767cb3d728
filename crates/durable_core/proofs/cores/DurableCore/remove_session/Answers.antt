use Rattle.std.proofs.Common.{◌∙◌, sym, refl}
use Rattle.world_model.specs.declared.events.Event.TheVariants as event
use Rattle.world_model.specs.declared.events.Outcome.TheVariants as outcome
use Rattle.durable_core.proofs.Going.{lifted, rests, stays}
use Rattle.durable_core.proofs.cores.DurableCore.remove_session.Goals as goal

pub returns-then-not-is_stopped-clause-log : goal.returns-then-not-is_stopped-clause-log
returns-then-not-is_stopped-clause-log g c j keeps =
    let D = g.D.Disk in
    let core = c.args.self.now.core in
    let event = event.Remove c.args.session in
    let going = sym c.is_stopped.ensures ∙ c.if-not-is_stopped.true in
    let step = lifted core.hall c.remove_session.new.self.hall event outcome.Done _ _ c.args.self.now.goes_on (c.remove_session.ensures.stopped ∙ c.args.self.now.goes_on) going going c.remove_session.ensures.step in
    rests D.crashes D.seen D.images D.moment D.left_since g.met.D.Disk.as_read g.met.D.Disk.counts_now g.met.D.Disk.only_now c.args.self.now _ event outcome.Done j going step keeps refl refl refl

pub returns-else-not-is_stopped-clause-log : goal.returns-else-not-is_stopped-clause-log
returns-else-not-is_stopped-clause-log g c j keeps =
    let D = g.D.Disk in
    stays D.crashes D.seen D.images D.moment D.left_since g.met.D.Disk.as_read g.met.D.Disk.counts_now g.met.D.Disk.only_now c.args.self.now (event.Remove c.args.session) j (sym c.is_stopped.ensures ∙ c.if-not-is_stopped.false)
