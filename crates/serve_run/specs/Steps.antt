-- The steps of a loop: what it asks of the hall, and which of that is a session's.
use Rattle.std.specs.Prelude.{◌≡◌, ◌==◌, ℕ, Bool, false, zero, suc, List, [], ◌∷◌, ◌++◌, flat_map, Option, Some, if◌then◌else◌}
use Rattle.std.specs.List.{list_any}
use Rattle.outside.specs.Causes.{next_count}
use Rattle.byte_text.specs.Names.{Bytes}
use Rattle.world_model.specs.declared.events.Asked.{Asked}
use Rattle.world_model.specs.declared.events.Asked.TheVariants as asks_for
use Rattle.world_model.specs.declared.events.CallOutcome.{CallOutcome}
use Rattle.world_model.specs.declared.events.Event.TheVariants as event
use Rattle.world_model.specs.declared.events.Outcome.{Outcome}
use Rattle.world_model.specs.declared.events.Outcome.TheVariants as outcome
use Rattle.world_model.specs.Outcomes.{call_acts}
use Rattle.world_model.specs.Seats.{Act}
use Rattle.repl_stream.specs.Feeds.{called_of}
use Rattle.repl_stream.specs.Texts.{ask_words, part_text}
use Rattle.repl_stream.specs.declared.asks.Ask.{Ask}
use Rattle.repl_stream.specs.declared.feeds.PartAnswer.{PartAnswer}
use Rattle.repl_stream.specs.declared.feeds.PartAnswer.TheVariants.{Given}
use Rattle.session_run.specs.Calls.{Call}
use Rattle.session_run.specs.Outs.{take_act}
use Rattle.session_run.specs.Turns.{turn_calls}
use Rattle.world_model.specs.declared.events.LogState.{LogState}
use Rattle.serve_run.specs.declared.tends.ServeEnd.TheVariants as end
use Rattle.serve_run.specs.Tends.{IsTold, AreFew, AreBelow, serve_end, rewrite_act, tend_acts, broken_acts, shrink_acts, unfence_acts}

-- a Tick at a moment and so many Rewrites behind it, each answered Ok, of which the last told this of the log; a Tick that wanted memory, or
-- a Rewrite that did behind so many that were answered Ok; a session of the server's own, which asked at a moment that the log be
-- rewritten, and was answered so; the same, where the Enter was refused; the caller of this number, and how the Enter for it was
-- answered; the calls of a session in one turn, at a moment: of these requests so many were answered Ok, and then all or the next one so; an
-- ask of a session, the only request of its turn at a moment, how it was answered out of the log, and the bytes that came with the part, where
-- one was given; a take of a session; its close; its removal. Behind the removal of a session, the first number, whose calls had set the
-- channel of its live fence: a session of the server's own, which asked at a moment that the channel be deleted, and was answered so; the same,
-- where the Enter was refused; the same, where there was no memory to ask
pub data Step : Type 0 where
  Tended : ℕ → ℕ → LogState → Step
  Wanting : ℕ → Option ℕ → CallOutcome → Step
  Shrunk : ℕ → ℕ → CallOutcome → Step
  Unshrunk : Outcome → Step
  Joined : ℕ → Outcome → Step
  Called : ℕ → ℕ → List Asked → ℕ → CallOutcome → Step
  Fed : ℕ → ℕ → Ask → PartAnswer → Bytes → Step
  Took : ℕ → Outcome → Step
  Closed : ℕ → Step
  Removed : ℕ → Step
  Unfenced : ℕ → ℕ → ℕ → CallOutcome → Step
  Unended : ℕ → Outcome → Step
  Unasked : ℕ → Step

-- an ask as the one request of a turn, how many of that are answered Ok, and the takes that it comes to: a part is given to its session as one
-- frame, as if a take had given it
abbrev pub asks_of : Ask → List Asked
asks_of ask = asks_for.Words (ask_words ask) ∷ []

abbrev pub served_by : PartAnswer → ℕ
served_by (Given part) = 1
served_by answer = 0

abbrev pub parts_of : PartAnswer → Bytes → List Outcome
parts_of (Given part) bytes = outcome.Given (part_text part bytes ∷ []) ∷ []
parts_of answer bytes = []

-- the entries of a step
abbrev pub step_acts : Step → List Act
step_acts (Tended m n log) = tend_acts m n
step_acts (Wanting m n c) = broken_acts m n c
step_acts (Shrunk n m c) = shrink_acts n m c
step_acts (Unshrunk o) = (event.Enter, o) ∷ []
step_acts (Joined caller o) = (event.Enter, o) ∷ []
step_acts (Called n m asked served end) = call_acts n m asked served end
step_acts (Fed n m ask answer bytes) = rewrite_act (called_of answer) ∷ []
step_acts (Took n o) = take_act n o ∷ []
step_acts (Closed n) = (event.Close n, outcome.Done) ∷ []
step_acts (Removed n) = (event.Remove n, outcome.Done) ∷ []
step_acts (Unfenced gone n m c) = unfence_acts gone n m c
step_acts (Unended gone o) = (event.Enter, o) ∷ []
step_acts (Unasked gone) = []

abbrev pub steps_acts : List Step → List Act
steps_acts steps = flat_map step_acts steps

-- the calls and the takes of a session, in order: an ask counts as a call, and a part as a frame that was taken
abbrev pub calls_in : ℕ → Step → List Call
calls_in n (Called k m asked served end) = if k == n then turn_calls m asked served end else []
calls_in n (Fed k m ask answer bytes) = if k == n then turn_calls m (asks_of ask) (served_by answer) (called_of answer) else []
calls_in n step = []

abbrev pub calls_of : ℕ → List Step → List Call
calls_of n steps = flat_map (calls_in n) steps

abbrev pub takes_in : ℕ → Step → List Outcome
takes_in n (Took k o) = if k == n then o ∷ [] else []
takes_in n (Fed k m ask answer bytes) = if k == n then parts_of answer bytes else []
takes_in n step = []

abbrev pub takes_of : ℕ → List Step → List Outcome
takes_of n steps = flat_map (takes_in n) steps

-- behind the removal of a session the end of its live fence was asked for, or could not be
abbrev pub ends_in : ℕ → Step → Bool
ends_in n (Unfenced gone k m c) = gone == n
ends_in n (Unended gone o) = gone == n
ends_in n (Unasked gone) = gone == n
ends_in n step = false

abbrev pub ends_fence : ℕ → List Step → Bool
ends_fence n steps = list_any (ends_in n) steps

-- the callers that came, in order
abbrev pub caller_in : Step → List ℕ
caller_in (Joined caller o) = caller ∷ []
caller_in step = []

abbrev pub callers_of : List Step → List ℕ
callers_of steps = flat_map caller_in steps

-- the numbers of so many callers, from one on, and the number of the caller behind them
abbrev pub numbered : ℕ → ℕ → List ℕ
numbered from zero = []
numbered from (suc n) = from ∷ numbered (next_count from) n

abbrev pub behind_callers : ℕ → ℕ → ℕ
behind_callers from zero = from
behind_callers from (suc n) = behind_callers (next_count from) n

-- the moments of a step are the clock's, and behind a Tick there are few Rewrites
abbrev pub IsTimely : Option ℕ → Step → Type 0
IsTimely told (Tended m n log) = IsTold told m × AreFew n
IsTimely told (Wanting m n c) = IsTold told m × AreBelow n × (serve_end c ≡ Some end.Memory)
IsTimely told (Shrunk n m c) = IsTold told m
IsTimely told (Called n m asked served end) = IsTold told m
IsTimely told (Fed n m ask answer bytes) = IsTold told m
IsTimely told (Unfenced gone n m c) = IsTold told m
IsTimely told step = Unit {0}

abbrev pub AreTimely : Option ℕ → List Step → Type 0
AreTimely told [] = Unit {0}
AreTimely told (step ∷ steps) = IsTimely told step × AreTimely told steps

-- the step is one of these
abbrev pub IsAmong : Step → List Step → Type 0
IsAmong step steps = (front : List Step) × (back : List Step) × (steps ≡ front ++ step ∷ back)
