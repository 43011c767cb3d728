use Rattle.serve_run.specs.Feeds.{FedBy}
use Rattle.serve_run.proofs.Stepping.{feeds_more, unfed}
use Rattle.serve_run.proofs.session_steps.step_in.Goals as goal

pub returns-then-not-wants_turn-clause-steps : goal.returns-then-not-wants_turn-clause-steps
returns-then-not-wants_turn-clause-steps g c = λ told timely.
    unfed (FedBy (g.H.FeedApi.answers c.args.hall.now) c.args.terms) told _ _ _ _ (c.read_once.ensures.steps told (g.H.HallApi.knows c.args.seat.now))

pub returns-clause-steps : goal.returns-clause-steps
returns-clause-steps g c = λ told timely.
    feeds_more (FedBy (g.H.FeedApi.answers c.args.hall.now) c.args.terms) told _ _ _ _ _ _
    (unfed (FedBy (g.H.FeedApi.answers c.args.hall.now) c.args.terms) told _ _ _ _ (c.read_once.ensures.steps told (g.H.HallApi.knows c.args.seat.now)))
    (c.ask_all.ensures.steps told timely)
