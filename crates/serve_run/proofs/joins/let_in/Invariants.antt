use Rattle.std.proofs.Common.{◌≤◌, ℕ, true}
use Rattle.std.specs.Prelude.{Option}
use Rattle.serve_run.specs.LoopStates.{Keeps, loop_state}
use Rattle.serve_run.proofs.joins.let_in.Given as goal

abbrev pub invariant-loop : goal.invariant-loop
invariant-loop g l = record {
  seat : g.H.HallApi.is_of l.hall l.seat;
  few : l.counts.starved ≤ l.counts.joined;
  room : l.counts.joined ≤ l.terms.limit;
  keeps : (told : Option ℕ) → Keeps told l.terms
      (loop_state (g.H.HallApi.knows l.initial.seat) (g.D.ReadyDoor.shows l.initial.door) (g.W.WaitForLinks.shows l.initial.wait) l.initial.table.items l.initial.counts.joined l.initial.counts.starved l.initial.counts.is_over true)
      (loop_state (g.H.HallApi.knows l.seat) (g.D.ReadyDoor.shows l.door) (g.W.WaitForLinks.shows l.wait) l.table.items l.counts.joined l.counts.starved l.counts.is_over true);
}
