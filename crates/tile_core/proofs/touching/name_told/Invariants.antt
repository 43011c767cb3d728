use Rattle.std.specs.Prelude.{◌≡◌, ◌<◌, ◌⊎◌, ℕ, Some, slice_get, true, []}
use Rattle.session_table.specs.Sessions.{State}
use Rattle.tile_core.specs.Answered.{AreRoomy, StayNamed, is_named}
use Rattle.tile_core.proofs.touching.name_told.Given as goal

-- of the first sessions each for which something is staged is named
abbrev pub invariant-loop-i : goal.invariant-loop-i
invariant-loop-i l =
    StayNamed l.initial.touched l.touched
    × AreRoomy l.touched l.sessions
    × ((k : ℕ) (s : State) → k < l.i → slice_get l.sessions k ≡ Some s → (s.mail.staged ≡ []) ⊎ (is_named l.touched s.number ≡ true))
