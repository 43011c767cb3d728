-- What steps of one session add to a loop's record.
use Rattle.std.specs.List.{AllByRecursion}
use Rattle.std.specs.Prelude.{◌≡◌, ◌⊎◌, ◌||◌, ℕ, true, List, [], ◌∷◌, ◌++◌, Option, Some, None}
use Rattle.world_model.specs.declared.events.CallOutcome.{CallOutcome}
use Rattle.world_model.specs.declared.events.Event.TheVariants as event
use Rattle.world_model.specs.declared.events.Outcome.{Outcome}
use Rattle.world_model.specs.Seats.{Knows}
use Rattle.outside.specs.Links.{LinkState}
use Rattle.session_run.specs.Calls.{Call}
use Rattle.session_run.specs.Gains.{Gains}
use Rattle.session_run.specs.Live.{has_set}
use Rattle.session_run.specs.Sessions.{SessionState, end_of_asking}
use Rattle.session_run.specs.declared.ends.InEnd.TheVariants as ended
use Rattle.session_run.specs.declared.phases.TakeEnd.TheVariants as took
use Rattle.session_run.specs.SoFar.{AskedSoFar, WrittenSoFar}
use Rattle.serve_run.specs.declared.tends.ServeEnd.{ServeEnd}
use Rattle.serve_run.specs.Tends.{UnfencesLast, IsTold, unfence_acts}
use Rattle.serve_run.specs.Steps.{Step, Tended, Wanting, Shrunk, Unshrunk, Joined, Called, Fed, Took, Closed, Removed, Unfenced, Unended, Unasked}
use Rattle.serve_run.specs.Feeds.{Feed, AreFed}
use Rattle.serve_run.specs.Steps.{steps_acts, calls_of, takes_of, ends_fence, AreTimely, IsAmong}

-- the step is of this session
abbrev pub IsOf : ℕ → Step → Type 0
IsOf n (Tended m count log) = ⊥
IsOf n (Wanting m count c) = ⊥
IsOf n (Shrunk k m c) = ⊥
IsOf n (Unshrunk o) = ⊥
IsOf n (Joined caller o) = ⊥
IsOf n (Called k m asked served end) = k ≡ n
IsOf n (Fed k m ask answer bytes) = k ≡ n
IsOf n (Took k o) = k ≡ n
IsOf n (Closed k) = k ≡ n
IsOf n (Removed k) = k ≡ n
IsOf n (Unfenced k own m c) = k ≡ n
IsOf n (Unended k o) = k ≡ n
IsOf n (Unasked k) = k ≡ n

abbrev pub AreOf : ℕ → List Step → Type 0
AreOf n [] = Unit {0}
AreOf n (step ∷ steps) = IsOf n step × AreOf n steps

-- how its asking and its taking ended is so as before, or this holds: the server ended them by itself
abbrev pub EndsBy : Type 0 → SessionState → SessionState → Type 0
EndsBy early s t = (end_of_asking t.asking ≡ Some ended.Dismissed → (end_of_asking s.asking ≡ Some ended.Dismissed) ⊎ early)
    × (t.taking ≡ Some took.Late → (s.taking ≡ Some took.Late) ⊎ early)

-- a session went on by steps of its own, and by no other entry of the seat; its calls and takes go on with those of these steps, and the end of
-- its live fence is asked for only where its calls have set that. These are the asks among them that were answered out of the log
pub record StepsSession (told : Option ℕ) (early : Type 0) (feeds : List Feed) (old new : Knows) (s t : SessionState) : Type 0 where
  pub steps : List Step
  pub own : AreOf s.number steps
  pub gains : Gains old new (steps_acts steps)
  pub timely : AreTimely told steps
  pub fed : AreFed feeds old new steps
  pub number : t.number ≡ s.number
  pub caller : t.line.caller ≡ s.line.caller
  pub asked : (made : List Call) → (came : LinkState) → AskedSoFar told made came s → AskedSoFar told (made ++ calls_of s.number steps) came t
  pub ends : EndsBy early s t
  pub fenced : t.is_fenced ≡ (s.is_fenced || has_set s.number (calls_of s.number steps))
  pub fence_ends : (n : ℕ) → ends_fence n steps ≡ true → (n ≡ s.number) × (t.is_fenced ≡ true)
  pub written : (takes : List Outcome) → (came : LinkState) → WrittenSoFar takes came s
      → WrittenSoFar (takes ++ takes_of s.number steps) came t

-- a session went on, no ask of it was answered out of the log, and the server ended nothing of it
abbrev pub StepsOn : Option ℕ → Knows → Knows → SessionState → SessionState → Type 0
StepsOn told old new s t = StepsSession told ⊥ [] old new s t

-- the same, but that asks of it were answered out of the log, each so
abbrev pub FeedsOn : (Feed → Type 0) → Option ℕ → Knows → Knows → SessionState → SessionState → Type 0
FeedsOn By told old new s t = (feeds : List Feed) × AllByRecursion By feeds × StepsSession told ⊥ feeds old new s t

-- the server ended its asking or cut its link, or left it; the seat made no entry
abbrev pub EndsEarly : Option ℕ → Knows → SessionState → SessionState → Type 0
EndsEarly told k s t = StepsSession told (Unit {0}) [] k k s t

-- the session was removed from the hall, and where its calls had set the channel of its live fence, the end of that was asked for
abbrev pub RemovesSession : Option ℕ → Knows → Knows → SessionState → Type 0
RemovesSession told old new s = (st : StepsOn told old new s s) × IsAmong (Removed s.number) st.steps
    × (s.is_fenced ≡ true → ends_fence s.number st.steps ≡ true)

-- the same, or what was asked for that brought the end
abbrev pub RemovesTo : Option ℕ → Knows → Knows → SessionState → Option ServeEnd → Type 0
RemovesTo told old new s None = RemovesSession told old new s
RemovesTo told old new s (Some e) = (mid : Knows) × StepsOn told old mid s s × UnfencesLast told mid new e

-- it was asked that the channel of a session that is gone be deleted; or there was no memory to ask, or no session was entered for it
abbrev pub UnfencesOn : Option ℕ → ℕ → Knows → Knows → Type 0
UnfencesOn told gone old new = (new ≡ old) ⊎ (((o : Outcome) × Gains old new ((event.Enter, o) ∷ []))
    ⊎ ((n : ℕ) × (m : ℕ) × (c : CallOutcome) × IsTold told m × Gains old new (unfence_acts gone n m c)))

abbrev pub Unfences : Option ℕ → ℕ → Knows → Knows → Option ServeEnd → Type 0
Unfences told gone old new None = UnfencesOn told gone old new
Unfences told gone old new (Some e) = UnfencesLast told old new e
