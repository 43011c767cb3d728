use Rattle.std.proofs.Common.{ℕ, subst, refl}
use Rattle.world_model.specs.Outcomes.{take_outcome}
use Rattle.world_model.specs.Seats.{Adds}
use Rattle.world_model.specs.declared.events.Event.TheVariants as event
use Rattle.serve_run.proofs.Stepping.{steps_none, steps_taken}
use Rattle.serve_run.proofs.session_steps.take_once.Goals as goal

pub returns-then-not-marks-clause-steps : goal.returns-then-not-marks-clause-steps
returns-then-not-marks-clause-steps g c = λ told. steps_none told ⊥ (g.H.HallApi.knows c.args.seat.now) c.args.session.now

pub returns-clause-steps : goal.returns-clause-steps
returns-clause-steps g c = λ told.
    let o = take_outcome c.take-taken.result c.take-taken.new.into.list in
    steps_taken told (g.H.HallApi.knows c.args.seat.now) (g.H.HallApi.knows c.take-taken.new.seat) c.args.session.now c.on_taken.new.self o (c.if-not-wants_take.ensures.0 refl)
    (subst (λ (n : ℕ). Adds (event.Take n) o (g.H.HallApi.knows c.args.seat.now) (g.H.HallApi.knows c.take-taken.new.seat)) c.number.ensures c.take-taken.ensures.entry)
    c.on_taken.ensures.takes
