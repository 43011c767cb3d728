-- The sessions that a core keeps, in the order of their numbers.
use Rattle.std.specs.Prelude.{◌≡◌, ◌≢◌, ◌⊎◌, ℕ, Bool, nat_lt, ◌<◌, ◌≤◌, List, [], ◌∷◌, length, slice_get, Some, Result, Ok, Err, true, false}
use Rattle.ordered_lists.specs.Lists.{ascends}
use Rattle.world_model.specs.Halls as halls
use Rattle.world_model.specs.Histories as histories
use Rattle.world_model.specs.declared.events.CallOutcome.{CallOutcome}
use Rattle.world_model.specs.declared.events.CallOutcome.TheVariants as called
use Rattle.session_table.specs.Sessions.{State, session_of}

-- it is served
abbrev pub is_open : State → Bool
is_open s = halls.is_live (session_of s)

-- it has too many frames, or too many bytes of frames, for a call to be made
abbrev pub is_full : State → Bool
is_full s = histories.is_full (session_of s)

-- the session of this number stands at this place
pub record IsAt (sessions : List State) (number i : ℕ) : Type 0 where
  pub session : State
  pub here : slice_get sessions i ≡ Some session
  pub numbered : session.number ≡ number

-- numbers rise along the list
abbrev pub number_before : State → State → Bool
number_before s t = nat_lt s.number t.number

abbrev pub are_rising : List State → Bool
are_rising sessions = ascends number_before sessions

-- numbers rise along the list from above `low` on, and none is over the last one drawn
abbrev pub Rises : ℕ → ℕ → List State → Type 0
Rises low drawn [] = low ≤ drawn
Rises low drawn (s ∷ sessions) = (low < s.number) × Rises s.number drawn sessions

-- no session has the number
abbrev pub AreOthers : ℕ → List State → Type 0
AreOthers number sessions = (k : ℕ) (s : State) → slice_get sessions k ≡ Some s → s.number ≢ number

-- the session of the number may make a call, or is absent or not served any more, or is full
abbrev pub IsServed : List State → ℕ → Result ℕ CallOutcome → Type 0
IsServed sessions number (Ok i) = (at : IsAt sessions number i) × (is_open at.session ≡ true) × (is_full at.session ≡ false) × (i < length sessions)
IsServed sessions number (Err called.Gone) = AreOthers number sessions ⊎ ((i : ℕ) × (at : IsAt sessions number i) × (is_open at.session ≡ false))
IsServed sessions number (Err called.Full) = (i : ℕ) × (at : IsAt sessions number i) × (is_open at.session ≡ true) × (is_full at.session ≡ true)
IsServed sessions number (Err c) = ⊥
