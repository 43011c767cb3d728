use Rattle.std.proofs.Common.{ℕ, subst}
use Rattle.world_model.specs.Seats.{Adds}
use Rattle.world_model.specs.declared.events.Event.TheVariants as event
use Rattle.world_model.specs.declared.events.Outcome.TheVariants as outcome
use Rattle.serve_run.proofs.Stepping.{steps_none, steps_closed}
use Rattle.serve_run.proofs.session_steps.close_once.Goals as goal

pub returns-then-marks-clause-steps : goal.returns-then-marks-clause-steps
returns-then-marks-clause-steps g c = λ told. steps_none told ⊥ (g.H.HallApi.knows c.args.seat.now) c.args.session.now

pub returns-clause-steps : goal.returns-clause-steps
returns-clause-steps g c = λ told.
    steps_closed told (g.H.HallApi.knows c.args.seat.now) (g.H.HallApi.knows c.close.new.seat) c.args.session.now
    (subst (λ (n : ℕ). Adds (event.Close n) outcome.Done (g.H.HallApi.knows c.args.seat.now) (g.H.HallApi.knows c.close.new.seat)) c.number.ensures c.close.ensures.entry)
