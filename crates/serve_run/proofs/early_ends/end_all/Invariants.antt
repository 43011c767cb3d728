use Rattle.std.proofs.Common.{◌≡◌, ℕ, length}
use Rattle.std.specs.Prelude.{Option}
use Rattle.world_model.specs.Seats.{Knows}
use Rattle.outside.specs.Waits.{WaitState}
use Rattle.serve_run.specs.LoopStates.{KeepsEarly}
use Rattle.serve_run.specs.Runs.{MayEnd}
use Rattle.serve_run.proofs.early_ends.end_all.Given as goal

abbrev pub invariant-loop-place : goal.invariant-loop-place
invariant-loop-place g l = record {
  ends : l.place-end ≡ length l.table.items;
  keeps : (told : Option ℕ) → (k : Knows) → (w : WaitState) → MayEnd l.terms w.over
      → KeepsEarly told l.terms k w l.initial.table.items l.table.items;
}
