use Rattle.std.proofs.Common.{ℕ}
use Rattle.std.specs.Prelude.{Option}
use Rattle.serve_run.specs.Feeds.{FedBy}
use Rattle.serve_run.specs.Tends.{IsTold}
use Rattle.serve_run.specs.SessionSteps.{FeedsOn}
use Rattle.serve_run.proofs.session_steps.ask_all.Given as goal

abbrev pub invariant-loop : goal.invariant-loop
invariant-loop g l = record {
  seat : g.H.HallApi.is_of l.hall l.seat;
  steps : (told : Option ℕ) → IsTold told l.moment
      → FeedsOn (FedBy (g.H.FeedApi.answers l.hall) l.terms) told (g.H.HallApi.knows l.initial.seat) (g.H.HallApi.knows l.seat) l.initial.session l.session;
}
