use Rattle.serve_run.proofs.Stepping.{steps_none, steps_more}
use Rattle.serve_run.proofs.session_steps.give_all.Goals as goal

pub loop-init : goal.loop-init
loop-init g c = record {
  seat = c.requires.seat;
  bare = c.requires.bare;
  places = c.requires.places;
  steps = λ told. steps_none told ⊥ (g.H.HallApi.knows c.args.seat.now) c.args.session.now;
}

pub returns-then-not-wants_take-clause-steps : goal.returns-then-not-wants_take-clause-steps
returns-then-not-wants_take-clause-steps g c = λ told.
    steps_more told ⊥ (g.H.HallApi.knows c.args.seat.now) (g.H.HallApi.knows c.loop.seat) (g.H.HallApi.knows c.give_once.new.seat) c.args.session.now
    c.loop.session c.give_once.new.session (c.loop.invariant.steps told) (c.give_once.ensures.steps told)

pub loop-preserved : goal.loop-preserved
loop-preserved g c = record {
  seat = c.give_once.ensures.seat;
  bare = c.give_once.ensures.bare;
  places = c.give_once.ensures.places;
  steps = λ told.
      steps_more told ⊥ (g.H.HallApi.knows c.args.seat.now) (g.H.HallApi.knows c.loop.seat) (g.H.HallApi.knows c.give_once.new.seat) c.args.session.now
      c.loop.session c.give_once.new.session (c.loop.invariant.steps told) (c.give_once.ensures.steps told);
}
