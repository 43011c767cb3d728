use Rattle.std.proofs.Common.{◌≤◌}
use Rattle.session_run.specs.Gains.{Gains}
use Rattle.serve_run.specs.Tends.{rewrites}
use Rattle.serve_run.proofs.tends.step_rewrites.Given as goal

abbrev pub invariant-loop : goal.invariant-loop
invariant-loop g l = record {
  seat : g.H.HallApi.is_of l.hall l.seat;
  within : l.counter ≤ l.steps;
  made : Gains (g.H.HallApi.knows l.initial.seat) (g.H.HallApi.knows l.seat) (rewrites l.counter);
}
