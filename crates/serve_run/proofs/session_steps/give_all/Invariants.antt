use Rattle.std.proofs.Common.{◌≡◌, ℕ, []}
use Rattle.std.specs.Prelude.{Option}
use Rattle.world_data.specs.Limits.{take_frames}
use Rattle.serve_run.specs.SessionSteps.{StepsOn}
use Rattle.serve_run.proofs.session_steps.give_all.Given as goal

abbrev pub invariant-loop : goal.invariant-loop
invariant-loop g l = record {
  seat : g.H.HallApi.is_of l.hall l.seat;
  bare : l.frames.list ≡ [];
  places : l.frames.places ≡ take_frames;
  steps : (told : Option ℕ)
      → StepsOn told (g.H.HallApi.knows l.initial.seat) (g.H.HallApi.knows l.seat) l.initial.session l.session;
}
