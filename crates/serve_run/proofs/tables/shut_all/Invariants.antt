use Rattle.std.proofs.Common.{◌≡◌, ℕ, Bool, false, length}
use Rattle.std.specs.Prelude.{Option}
use Rattle.outside.specs.Doors.{DoorState}
use Rattle.world_model.specs.Seats.{Knows}
use Rattle.serve_run.specs.declared.terms.Terms.{Terms}
use Rattle.serve_run.specs.LoopStates.{Keeps, loop_state}
use Rattle.serve_run.proofs.tables.shut_all.Given as goal

abbrev pub invariant-loop-place : goal.invariant-loop-place
invariant-loop-place g l = record {
  keeps : (told : Option ℕ) → (terms : Terms) → (k : Knows) → (d : DoorState) → (joined starved : ℕ) → (is_over goes_on : Bool)
      → Keeps told terms (loop_state k d (g.W.WaitForLinks.shows l.initial.wait) l.initial.table.items joined starved is_over goes_on)
      (loop_state k d (g.W.WaitForLinks.shows l.wait) l.table.items joined starved is_over false);
  faults : (g.W.WaitForLinks.shows l.wait).faults ≡ (g.W.WaitForLinks.shows l.initial.wait).faults;
}

abbrev pub decreases-loop-place : goal.decreases-loop-place
decreases-loop-place g l = length l.table.items
