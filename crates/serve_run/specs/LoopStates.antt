-- What a loop keeps from step to step.
use Rattle.std.specs.Prelude.{◌≡◌, ◌⊎◌, ◌==◌, ◌≤◌, ◌+◌, ℕ, Bool, true, false, List, [], ◌∷◌, ◌++◌, Option, Some, None, option_map, min}
use Rattle.std.specs.List.{slice_get, AllByRecursion}
use Rattle.outside.specs.Causes.{Rose, most_count}
use Rattle.world_model.specs.declared.events.Outcome.TheVariants as outcome
use Rattle.world_model.specs.Seats.{Knows}
use Rattle.outside.specs.Links.{LinkState, IsNew}
use Rattle.outside.specs.Doors.{DoorState}
use Rattle.outside.specs.Waits.{WaitState}
use Rattle.session_run.specs.Gains.{Gains}
use Rattle.session_run.specs.Live.{has_set}
use Rattle.session_run.specs.Sessions.{SessionState, end_of_asking}
use Rattle.session_run.specs.SoFar.{AskedSoFar, WrittenSoFar}
use Rattle.serve_run.specs.declared.terms.Terms.{Terms}
use Rattle.serve_run.specs.declared.tends.ServeEnd.{ServeEnd}
use Rattle.serve_run.specs.declared.tends.ServeEnd.TheVariants as end
use Rattle.serve_run.specs.declared.tendings.Tending.{Tending}
use Rattle.serve_run.specs.Tends.{UnfencesLast}
use Rattle.serve_run.specs.Feeds.{Feed, AreFed}
use Rattle.serve_run.specs.Follows.{tending_from, AllFollow}
use Rattle.serve_run.specs.Loops.{Around, around}
use Rattle.serve_run.specs.Pacing.{untended}
use Rattle.serve_run.specs.Steps.{Step, Joined, steps_acts, calls_of, takes_of, callers_of, numbered, behind_callers, AreTimely, IsAmong}
use Rattle.serve_run.specs.Runs.{LinkRun, LinkFate, AreRuns, AreThrough, AreRemoved, FencesEnd, WatchFaults, MayEnd, EndCause}
use Rattle.serve_run.specs.Runs.{FateCauses, one_if, times, times_shut, told_links, starved_of}
use Rattle.serve_run.specs.Runs.{TurnedOut, Starved, Unwatched, Served}

-- where a loop stands: what is around it; its table of open sessions; how many callers came, and how many were removed for want of memory;
-- whether the door told its end; and whether the loop goes on
pub record LoopState : Type 0 where
  pub around : Around
  pub places : List (Option SessionState)
  pub joined : ℕ
  pub starved : ℕ
  pub is_over : Bool
  pub goes_on : Bool

abbrev pub loop_state : Knows → DoorState → WaitState → List (Option SessionState) → ℕ → ℕ → Bool → Bool → LoopState
loop_state k d w places joined starved is_over goes_on = record {
  around = around k d w;
  places = places;
  joined = joined;
  starved = starved;
  is_over = is_over;
  goes_on = goes_on;
}

-- an open session, at its place: its link came as the caller of its number, the session was entered for it, and its calls, its takes and
-- what was written are those of the steps so far
pub record IsOpen (told : Option ℕ) (steps : List Step) (owner : ℕ → Option ℕ) (place : ℕ) (s : SessionState) : Type 0 where
  pub came : LinkState
  pub is_new : IsNew came.caller came
  pub caller : s.line.caller ≡ came.caller
  pub joined : IsAmong (Joined came.caller (outcome.Entered s.number)) steps
  pub asked : AskedSoFar told (calls_of s.number steps) came s
  pub written : WrittenSoFar (takes_of s.number steps) came s
  pub fenced : s.is_fenced ≡ has_set s.number (calls_of s.number steps)
  pub owned : owner s.number ≡ Some place

-- no open session has the number of one that is gone
abbrev pub IsGone : (ℕ → Option ℕ) → LinkFate → Type 0
IsGone owner (TurnedOut o) = Unit {0}
IsGone owner (Starved n) = owner n ≡ None
IsGone owner (Unwatched n) = owner n ≡ None
IsGone owner (Served n asking taking) = owner n ≡ None

abbrev pub AreGone : (ℕ → Option ℕ) → List LinkRun → Type 0
AreGone owner [] = Unit {0}
AreGone owner (run ∷ runs) = IsGone owner run.fate × AreGone owner runs

-- how often a caller stands in the table
abbrev pub time_at : ℕ → Option SessionState → ℕ
time_at c None = 0
time_at c (Some s) = one_if (s.line.caller == c)

abbrev pub times_open : ℕ → List (Option SessionState) → ℕ
times_open c [] = 0
times_open c (place ∷ places) = time_at c place + times_open c places

-- no session of this number was entered
abbrev pub NeverJoined : ℕ → List Step → Type 0
NeverJoined n steps = (caller : ℕ) → IsAmong (Joined caller (outcome.Entered n)) steps → ⊥

-- what the loop keeps, from where it began on; this is what its tends told so far, and these are the asks that were answered out of the log
pub record Holds (told : Option ℕ) (terms : Terms) (old : Around) (t : Tending) (feeds : List Feed) (s : LoopState) : Type 0 where
  pub steps : List Step
  pub gains : Gains old.knows s.around.knows (steps_acts steps)
  pub timely : AreTimely told steps
  pub fed : AreFed feeds old.knows s.around.knows steps
  pub tends : tending_from untended steps ≡ t
  pub follow : AllFollow terms untended steps
  pub callers : callers_of steps ≡ numbered old.door.links s.joined
  pub door_links : s.around.door.links ≡ behind_callers old.door.links s.joined
  pub unused : (n : ℕ) → NeverJoined n steps → (calls_of n steps ≡ []) × (takes_of n steps ≡ [])
  pub owner : ℕ → Option ℕ
  pub open_are : (i : ℕ) → (x : SessionState) → slice_get s.places i ≡ Some (Some x) → IsOpen told steps owner i x
  pub runs : List LinkRun
  pub are : AreRuns told steps runs
  pub gone : AreGone owner runs
  pub once : (c : ℕ) → times_shut c runs + times_open c s.places ≡ times c (callers_of steps)
  pub shut : s.around.wait.shut ≡ option_map (λ links. links ++ told_links runs) old.wait.shut
  pub starved_are : s.starved ≡ starved_of runs
  pub unwatched : WatchFaults (Rose old.wait.faults s.around.wait.faults) runs
  pub early : FateCauses (MayEnd terms s.around.wait.over) runs
  pub early_open : (i : ℕ) → (x : SessionState) → slice_get s.places i ≡ Some (Some x)
      → EndCause (MayEnd terms s.around.wait.over) (end_of_asking x.asking) x.taking
  pub through : s.goes_on ≡ true → AreThrough runs
  pub removed : s.goes_on ≡ true → AreRemoved steps runs
  pub fences : FencesEnd steps
  pub opened : s.around.door.opened ≡ old.door.opened
  pub door_ends : min old.door.ends most_count ≤ s.around.door.ends
  pub over_cause : s.is_over ≡ true → Rose old.door.ends s.around.door.ends
  pub door_later : old.door.faults ≤ s.around.door.faults
  pub wait_later : old.wait.faults ≤ s.around.wait.faults

-- whatever the loop began with: what it kept, it keeps
abbrev pub Keeps : Option ℕ → Terms → LoopState → LoopState → Type 0
Keeps told terms s s' = (old : Around) → (t : Tending) → (feeds : List Feed) → Holds told terms old t feeds s → Holds told terms old t feeds s'

-- sessions of the table went on, and all else is as it was
abbrev pub KeepsTable : Option ℕ → Terms → Knows → Knows → List (Option SessionState) → List (Option SessionState) → Type 0
KeepsTable told terms k k' places places' = (d : DoorState) → (w : WaitState) → (joined starved : ℕ) → (is_over goes_on : Bool)
    → Keeps told terms (loop_state k d w places joined starved is_over goes_on) (loop_state k' d w places' joined starved is_over goes_on)

-- the same, but that asks of them were answered out of the log, each so
abbrev pub FeedsTable : (Feed → Type 0) → Option ℕ → Terms → Knows → Knows → List (Option SessionState) → List (Option SessionState) → Type 0
FeedsTable By told terms k k' places places' = (more : List Feed) × AllByRecursion By more × ((d : DoorState) → (w : WaitState) → (joined starved : ℕ)
    → (is_over goes_on : Bool) → (old : Around) → (t : Tending) → (feeds : List Feed)
    → Holds told terms old t feeds (loop_state k d w places joined starved is_over goes_on)
    → Holds told terms old t (feeds ++ more) (loop_state k' d w places' joined starved is_over goes_on))

-- sessions of the table went on, and the one that waits was given links to shut; the loop goes on only where it could tell each
abbrev pub KeepsShut : Option ℕ → Terms → Knows → Knows → WaitState → WaitState → List (Option SessionState) → List (Option SessionState) → Bool → Type 0
KeepsShut told terms k k' w w' places places' is_told = (d : DoorState) → (joined starved : ℕ) → (is_over : Bool)
    → Keeps told terms (loop_state k d w places joined starved is_over true) (loop_state k' d w' places' joined starved is_over is_told)

-- the same, up to an end: a link could not be told, or what a session of the server's own asked behind the removal of one was answered so
abbrev pub KeepsShutTo : Option ℕ → Terms → Knows → Knows → WaitState → WaitState → List (Option SessionState) → List (Option SessionState)
    → Option ServeEnd → Type 0
KeepsShutTo told terms k k' w w' places places' None = KeepsShut told terms k k' w w' places places' true
KeepsShutTo told terms k k' w w' places places' (Some e) = (mid : Knows) × KeepsShut told terms k mid w w' places places' false
    × (((mid ≡ k') × (e ≡ end.Memory)) ⊎ UnfencesLast told mid k' e)

-- before that sessions of the table went on, and asks of them were answered out of the log, each so
abbrev pub FeedsShutTo : (Feed → Type 0) → Option ℕ → Terms → Knows → Knows → WaitState → WaitState → List (Option SessionState)
    → List (Option SessionState) → Option ServeEnd → Type 0
FeedsShutTo By told terms k k' w w' places places' end = (mid : Knows) × (between : List (Option SessionState))
    × FeedsTable By told terms k mid places between × KeepsShutTo told terms mid k' w w' between places' end

-- the server ended sessions of the table by itself, and all else is as it was
abbrev pub KeepsEarly : Option ℕ → Terms → Knows → WaitState → List (Option SessionState) → List (Option SessionState) → Type 0
KeepsEarly told terms k w places places' = (d : DoorState) → (joined starved : ℕ) → (is_over goes_on : Bool)
    → Keeps told terms (loop_state k d w places joined starved is_over goes_on) (loop_state k d w places' joined starved is_over goes_on)

-- no session is open
abbrev pub NoneOpen : List (Option SessionState) → Type 0
NoneOpen places = (i : ℕ) → (x : SessionState) → slice_get places i ≡ Some (Some x) → ⊥
