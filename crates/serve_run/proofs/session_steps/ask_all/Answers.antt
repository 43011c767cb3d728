use Rattle.serve_run.specs.Feeds.{FedBy}
use Rattle.serve_run.proofs.Stepping.{steps_none, feeds_more, unfed}
use Rattle.serve_run.proofs.session_steps.ask_all.Goals as goal

pub loop-init : goal.loop-init
loop-init g c = record {
  seat = c.requires.seat;
  steps = λ told timely.
      unfed (FedBy (g.H.FeedApi.answers c.args.hall.now) c.args.terms) told (g.H.HallApi.knows c.args.seat.now) (g.H.HallApi.knows c.args.seat.now)
      c.args.session.now c.args.session.now (steps_none told ⊥ (g.H.HallApi.knows c.args.seat.now) c.args.session.now);
}

pub returns-then-not-goes_on-clause-steps : goal.returns-then-not-goes_on-clause-steps
returns-then-not-goes_on-clause-steps g c = λ told timely.
    feeds_more (FedBy (g.H.FeedApi.answers c.args.hall.now) c.args.terms) told (g.H.HallApi.knows c.args.seat.now) (g.H.HallApi.knows c.loop.seat)
    (g.H.HallApi.knows c.ask-goes_on.new.seat) c.args.session.now c.loop.session c.ask-goes_on.new.session
    (c.loop.invariant.steps told timely) (c.ask-goes_on.ensures.steps told timely)

pub loop-preserved : goal.loop-preserved
loop-preserved g c = record {
  seat = c.ask-goes_on.ensures.seat;
  steps = λ told timely.
      feeds_more (FedBy (g.H.FeedApi.answers c.args.hall.now) c.args.terms) told (g.H.HallApi.knows c.args.seat.now) (g.H.HallApi.knows c.loop.seat)
      (g.H.HallApi.knows c.ask-goes_on.new.seat) c.args.session.now c.loop.session c.ask-goes_on.new.session
      (c.loop.invariant.steps told timely) (c.ask-goes_on.ensures.steps told timely);
}
