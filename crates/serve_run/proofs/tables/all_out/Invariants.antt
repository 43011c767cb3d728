use Rattle.std.proofs.Common.{◌≡◌, ℕ, [], length}
use Rattle.std.specs.Prelude.{Option}
use Rattle.world_data.specs.Limits.{take_frames}
use Rattle.serve_run.specs.declared.terms.Terms.{Terms}
use Rattle.serve_run.specs.LoopStates.{KeepsTable}
use Rattle.serve_run.proofs.tables.all_out.Given as goal

abbrev pub invariant-loop-place : goal.invariant-loop-place
invariant-loop-place g l = record {
  seat : g.H.HallApi.is_of l.hall l.seat;
  ends : l.place-end ≡ length l.table.items;
  bare : l.frames.list ≡ [];
  places : l.frames.places ≡ take_frames;
  keeps : (told : Option ℕ) → (terms : Terms) → KeepsTable told terms (g.H.HallApi.knows l.initial.seat) (g.H.HallApi.knows l.seat) l.initial.table.items l.table.items;
}
