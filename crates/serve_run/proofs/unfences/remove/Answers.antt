use Rattle.std.proofs.Common.{ℕ, sym, subst}
use Rattle.world_model.specs.Seats.{Adds}
use Rattle.world_model.specs.declared.events.Event.TheVariants as event
use Rattle.world_model.specs.declared.events.Outcome.TheVariants as outcome
use Rattle.serve_run.specs.SessionSteps.{Unfences}
use Rattle.serve_run.proofs.Unfencing.{removes_alone, removes_fenced}
use Rattle.serve_run.proofs.unfences.remove.Goals as goal

pub returns-then-not-is_fenced-clause-removes : goal.returns-then-not-is_fenced-clause-removes
returns-then-not-is_fenced-clause-removes g c = λ told timely.
    removes_alone told (g.H.HallApi.knows c.args.seat.now) (g.H.HallApi.knows c.remove.new.seat) c.args.session.now (sym c.if-not-is_fenced.ensures)
    (subst (λ (n : ℕ). Adds (event.Remove n) outcome.Done (g.H.HallApi.knows c.args.seat.now) (g.H.HallApi.knows c.remove.new.seat)) c.number.ensures
    c.remove.ensures.entry)

pub returns-clause-removes : goal.returns-clause-removes
returns-clause-removes g c = λ told timely.
    removes_fenced told (g.H.HallApi.knows c.args.seat.now) (g.H.HallApi.knows c.remove.new.seat) c.args.session.now (sym c.if-not-is_fenced.ensures)
    (subst (λ (n : ℕ). Adds (event.Remove n) outcome.Done (g.H.HallApi.knows c.args.seat.now) (g.H.HallApi.knows c.remove.new.seat)) c.number.ensures
    c.remove.ensures.entry)
    (g.H.HallApi.knows c.unfence-end.new.seat) c.unfence-end.result.0
    (subst (λ (n : ℕ). Unfences told n (g.H.HallApi.knows c.remove.new.seat) (g.H.HallApi.knows c.unfence-end.new.seat) c.unfence-end.result.0)
    c.number-2.ensures (c.unfence-end.ensures.unfences told timely))
