-- The answers of calls, as the outcomes that stand in a history.
use Rattle.std.specs.Prelude.{◌≡◌, ℕ, ◌<◌, Bool, true, false, List, [], ◌∷◌, ◌++◌, map, take, drop, Result, Ok, Err}
use Rattle.byte_text.specs.Names.{Bytes}
use Rattle.world_model.specs.Seats.{Act}
use Rattle.world_model.specs.declared.events.Asked.{Asked}
use Rattle.world_model.specs.declared.events.Asked.TheVariants.{Words, Broken}
use Rattle.world_model.specs.declared.events.CallOutcome.{CallOutcome}
use Rattle.world_model.specs.declared.events.CallOutcome.TheVariants as called
use Rattle.world_model.specs.declared.events.Taken.{Taken}
use Rattle.world_model.specs.declared.events.Taken.TheVariants as taken
use Rattle.world_model.specs.declared.events.EnterFault.{EnterFault}
use Rattle.world_model.specs.declared.events.EnterFault.TheVariants as refused
use Rattle.world_model.specs.declared.events.Event.TheVariants.{Call}
use Rattle.world_model.specs.declared.events.Outcome.{Outcome}
use Rattle.world_model.specs.declared.events.Outcome.TheVariants.{Entered, TooMany, Answered, Given, Empty, Ended}

abbrev pub enter_outcome : Result ℕ EnterFault → Outcome
enter_outcome (Ok n) = Entered n
enter_outcome (Err refused.TooMany) = TooMany
enter_outcome (Err refused.Stopped) = Answered called.Stopped
enter_outcome (Err refused.Memory) = Answered called.Memory

-- a take's answer, with the frames that were given
abbrev pub take_outcome : Taken → List Bytes → Outcome
take_outcome (taken.Some n) frames = Given frames
take_outcome taken.Empty frames = Empty
take_outcome taken.Ended frames = Ended
take_outcome taken.LogFault frames = Answered called.LogFault
take_outcome taken.Stopped frames = Answered called.Stopped

-- as many frames were given as the answer says
abbrev pub given_count : Taken → ℕ
given_count (taken.Some n) = n
given_count taken.Empty = 0
given_count taken.Ended = 0
given_count taken.LogFault = 0
given_count taken.Stopped = 0

-- a request of at least one word, or a fault of the protocol
abbrev pub is_proper : Asked → Bool
is_proper (Words []) = false
is_proper (Words (w ∷ words)) = true
is_proper (Broken f) = true

abbrev pub call_act : ℕ → ℕ → CallOutcome → Asked → Act
call_act n m answer asked = (Call n m asked, Answered answer)

-- the call behind those that were answered Ok, where there is one
abbrev pub last_call : ℕ → ℕ → CallOutcome → List Asked → List Act
last_call n m answer [] = []
last_call n m called.Ok (a ∷ asked) = []
last_call n m answer (a ∷ asked) = call_act n m answer a ∷ []

-- calls in order, each answered Ok but perhaps the last
abbrev pub call_acts : ℕ → ℕ → List Asked → ℕ → CallOutcome → List Act
call_acts n m asked served end = map (call_act n m called.Ok) (take served asked) ++ last_call n m end (drop served asked)

-- all were answered Ok, or the next one otherwise
abbrev pub IsCount : ℕ → CallOutcome → ℕ → Type 0
IsCount served called.Ok most = served ≡ most
IsCount served end most = served < most
