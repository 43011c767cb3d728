use Rattle.std.proofs.Common.{◌≡◌, ℕ, true, length}
use Rattle.std.specs.Prelude.{Option}
use Rattle.serve_run.specs.declared.terms.Terms.{Terms}
use Rattle.serve_run.specs.Tends.{IsTold}
use Rattle.serve_run.specs.LoopStates.{KeepsShut}
use Rattle.serve_run.proofs.tables.shut_over.Given as goal

abbrev pub invariant-loop-place : goal.invariant-loop-place
invariant-loop-place g l = record {
  seat : g.H.HallApi.is_of l.hall l.seat;
  ends : l.place-end ≡ length l.table.items;
  keeps : (told : Option ℕ) → (terms : Terms) → IsTold told l.moment
      → KeepsShut told terms (g.H.HallApi.knows l.initial.seat) (g.H.HallApi.knows l.seat) (g.W.WaitForLinks.shows l.initial.wait)
      (g.W.WaitForLinks.shows l.wait) l.initial.table.items l.table.items true;
}
