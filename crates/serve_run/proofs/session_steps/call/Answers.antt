use Rattle.std.proofs.Common.{ℕ, List, ap, refl, subst}
use Rattle.world_model.specs.declared.events.Asked.{Asked}
use Rattle.world_model.specs.Outcomes.{call_acts}
use Rattle.world_model.specs.Seats.{AddsNamed}
use Rattle.serve_run.proofs.Stepping.{steps_asked}
use Rattle.serve_run.proofs.session_steps.call.Goals as goal

pub returns-clause-steps : goal.returns-clause-steps
returns-clause-steps g c = λ told timely.
    steps_asked told c.args.moment timely (g.H.HallApi.knows c.args.seat.now) (g.H.HallApi.knows c.calls-asked.new.seat)
    (record c.args.session.now { asked = c.args.asked }) c.args.session.now c.on_answered.new.self c.args.asked c.calls-asked.result.1
    c.calls-asked.result.0.served c.calls-asked.result.0.end c.calls-asked.result.2 c.requires.ready refl
    (ap (λ (l : List Asked). record c.args.session.now { asked = l }) c.requires.moved) c.calls-asked.ensures.back c.calls-asked.ensures.count
    (subst (λ (n : ℕ). AddsNamed (call_acts n c.args.moment c.args.asked c.calls-asked.result.0.served c.calls-asked.result.0.end) c.calls-asked.result.2
    (g.H.HallApi.knows c.args.seat.now) (g.H.HallApi.knows c.calls-asked.new.seat)) c.number.ensures c.calls-asked.ensures.entries)
    c.on_answered.ensures.answered c.on_answered.ensures.fenced c.on_answered.ensures.demand
