-- What became of a link: what it was asked, and what it was written.
use Rattle.std.specs.Prelude.{◌≡◌, ◌==◌, ◌+◌, ◌<◌, ◌⊎◌, ℕ, Bool, true, false, List, [], ◌∷◌, ◌++◌, flat_map, Option, Some, None, if◌then◌else◌}
use Rattle.std.specs.Io.KnownBytes.{Appends, Consumes, IsAtEnd}
use Rattle.outside.specs.Causes.{Rose}
use Rattle.outside.specs.Writing.{AppendsPart}
use Rattle.byte_text.specs.Names.{Bytes}
use Rattle.world_model.specs.declared.events.Asked.{Asked}
use Rattle.world_model.specs.declared.events.Outcome.{Outcome}
use Rattle.world_model.specs.declared.events.Outcome.TheVariants as outcome
use Rattle.outside.specs.Links.{LinkState, IsNew}
use Rattle.session_run.specs.Calls.{Call, Serves}
use Rattle.session_run.specs.Ends.{EndsAt}
use Rattle.session_run.specs.Live.{has_set}
use Rattle.session_run.specs.Outs.{bytes_given}
use Rattle.session_run.specs.declared.ends.InEnd.{InEnd}
use Rattle.session_run.specs.declared.ends.InEnd.TheVariants as ended
use Rattle.session_run.specs.declared.phases.TakeEnd.{TakeEnd}
use Rattle.session_run.specs.declared.phases.TakeEnd.TheVariants as took
use Rattle.session_run.specs.SoFar.{asked_for}
use Rattle.serve_run.specs.declared.terms.Terms.{Terms}
use Rattle.serve_run.specs.Steps.{Step, Joined, Removed, calls_of, takes_of, ends_fence, IsAmong}

-- What became of a link. No session was entered, and the Enter was answered so; or the session of this number was entered, and removed at
-- once: for want of memory, or because the link could not be watched; or it was served: how its asking ended, if it did, and how its
-- taking ended, if all that was to be written was written or its link had failed or was cut. That the taking has not ended is so only where the
-- loop ended before the link did
pub data LinkFate : Type 0 where
  TurnedOut : Outcome → LinkFate
  Starved : ℕ → LinkFate
  Unwatched : ℕ → LinkFate
  Served : ℕ → Option InEnd → Option TakeEnd → LinkFate

-- a link as it came and as it was shut, what became of it, and whether the one that waits told that it was shut: where it did not, it had
-- no memory
pub record LinkRun : Type 0 where
  pub came : LinkState
  pub went : LinkState
  pub fate : LinkFate
  pub is_told : Bool

-- no session was entered
abbrev pub IsRefusal : Outcome → Type 0
IsRefusal (outcome.Entered n) = ⊥
IsRefusal o = Unit {0}

-- one call more was made, where the asking ended so
abbrev pub AskingEnds : Option ℕ → Option InEnd → List Call → List Asked → List Asked → Type 0
AskingEnds told None stop asks left = stop ≡ []
AskingEnds told (Some end) stop asks left = EndsAt told end stop asks left

-- all that is shown of what the takes gave was written; or a first part of it, where the link failed or was cut, memory ran out or the loop ended before
abbrev pub Wrote : Option TakeEnd → Option Bytes → Option Bytes → Bytes → Type 0
Wrote None held held' given = AppendsPart held held' given
Wrote (Some took.WriteFault) held held' given = AppendsPart held held' given
Wrote (Some took.Memory) held held' given = AppendsPart held held' given
Wrote (Some took.Late) held held' given = AppendsPart held held' given
Wrote (Some end) held held' given = Appends held held' given

-- A link was served as the session of a number. Its calls are those of what is asked of the bytes that were read of it, in order, each once but
-- again while it is answered Full, up to an end: a live search is asked as the two requests that it becomes. What it was written is what it is
-- shown of what its takes gave, in order, or a first part of that.
pub record IsServed (told : Option ℕ) (steps : List Step) (came went : LinkState) (n : ℕ) (asking : Option InEnd)
    (taking : Option TakeEnd) : Type 0 where
  pub read : Bytes
  pub consumed : Consumes came.left went.left read
  pub calls : List Call
  pub stop : List Call
  pub made : calls_of n steps ≡ calls ++ stop
  pub left : List Asked
  pub serves : Serves told calls (asked_for n read) left
  pub asking_ends : AskingEnds told asking stop (asked_for n read) left
  pub at_end : asking ≡ Some ended.Over → IsAtEnd went.left
  pub read_cause : asking ≡ Some ended.ReadFault → Rose came.faults went.faults
  pub wrote : Wrote taking came.held went.held (bytes_given n (takes_of n steps))
  pub last : taking ≡ Some took.Ended → (before : List Outcome) × (takes_of n steps ≡ before ++ outcome.Ended ∷ [])
  pub write_cause : taking ≡ Some took.WriteFault → Rose came.faults went.faults

-- nothing was asked for the session of this number, and nothing was taken from it; the link is as it came
pub record IsUnserved (steps : List Step) (came went : LinkState) (n : ℕ) : Type 0 where
  pub uncalled : calls_of n steps ≡ []
  pub untaken : takes_of n steps ≡ []
  pub same : went ≡ came

abbrev pub fate_outcome : LinkFate → Outcome
fate_outcome (TurnedOut o) = o
fate_outcome (Starved n) = outcome.Entered n
fate_outcome (Unwatched n) = outcome.Entered n
fate_outcome (Served n asking taking) = outcome.Entered n

abbrev pub HasFate : Option ℕ → List Step → LinkState → LinkState → LinkFate → Type 0
HasFate told steps came went (TurnedOut o) = IsRefusal o × (went ≡ came)
HasFate told steps came went (Starved n) = IsUnserved steps came went n
HasFate told steps came went (Unwatched n) = IsUnserved steps came went n
HasFate told steps came went (Served n asking taking) = IsServed told steps came went n asking taking

-- the link came as the caller of its number: an Enter was made for it, and became of it what its fate says
pub record IsRun (told : Option ℕ) (steps : List Step) (run : LinkRun) : Type 0 where
  pub is_new : IsNew run.came.caller run.came
  pub joined : IsAmong (Joined run.came.caller (fate_outcome run.fate)) steps
  pub fate : HasFate told steps run.came run.went run.fate

abbrev pub AreRuns : Option ℕ → List Step → List LinkRun → Type 0
AreRuns told steps [] = Unit {0}
AreRuns told steps (run ∷ runs) = IsRun told steps run × AreRuns told steps runs

-- how often a number stands in a list, and how often a caller among links
abbrev pub one_if : Bool → ℕ
one_if true = 1
one_if false = 0

abbrev pub times : ℕ → List ℕ → ℕ
times c [] = 0
times c (k ∷ ks) = one_if (k == c) + times c ks

abbrev pub times_shut : ℕ → List LinkRun → ℕ
times_shut c [] = 0
times_shut c (run ∷ runs) = one_if (run.came.caller == c) + times_shut c runs

-- the links of which it was told that they were shut, as they were then
abbrev pub told_of : LinkRun → List LinkState
told_of run = if run.is_told then run.went ∷ [] else []

abbrev pub told_links : List LinkRun → List LinkState
told_links runs = flat_map told_of runs

-- how many links were removed for want of memory
abbrev pub starved_in : LinkFate → ℕ
starved_in (Starved n) = 1
starved_in fate = 0

abbrev pub starved_of : List LinkRun → ℕ
starved_of [] = 0
starved_of (run ∷ runs) = starved_in run.fate + starved_of runs

-- the link went on to its own end, and that it was shut is told
abbrev pub is_through : LinkFate → Bool
is_through (Served n asking None) = false
is_through fate = true

abbrev pub AreThrough : List LinkRun → Type 0
AreThrough [] = Unit {0}
AreThrough (run ∷ runs) = (is_through run.fate ≡ true) × (run.is_told ≡ true) × AreThrough runs

-- where a link could not be watched, this holds
abbrev pub WatchFault : Type 0 → LinkFate → Type 0
WatchFault cause (Unwatched n) = cause
WatchFault cause fate = Unit {0}

abbrev pub WatchFaults : Type 0 → List LinkRun → Type 0
WatchFaults cause [] = Unit {0}
WatchFaults cause (run ∷ runs) = WatchFault cause run.fate × WatchFaults cause runs

-- the server may end a session by itself: there is an idle limit, or the end of the server was asked for
abbrev pub MayEnd : Terms → Bool → Type 0
MayEnd terms over = (0 < terms.idle) ⊎ ((terms.until_end ≡ true) × (over ≡ true))

-- where it ended the asking, or cut the link, this holds
abbrev pub EndCause : Type 0 → Option InEnd → Option TakeEnd → Type 0
EndCause cause asking taking = (asking ≡ Some ended.Dismissed → cause) × (taking ≡ Some took.Late → cause)

abbrev pub FateCause : Type 0 → LinkFate → Type 0
FateCause cause (Served n asking taking) = EndCause cause asking taking
FateCause cause fate = Unit {0}

abbrev pub FateCauses : Type 0 → List LinkRun → Type 0
FateCauses cause [] = Unit {0}
FateCauses cause (run ∷ runs) = FateCause cause run.fate × FateCauses cause runs

-- where the calls of a session set the channel of its live fence, the end of that was asked for, or could not be
abbrev pub EndsFence : List Step → ℕ → Type 0
EndsFence steps n = has_set n (calls_of n steps) ≡ true → ends_fence n steps ≡ true

-- and of no other session
abbrev pub FencesEnd : List Step → Type 0
FencesEnd steps = (n : ℕ) → ends_fence n steps ≡ true → has_set n (calls_of n steps) ≡ true

-- the session of a link that was entered is removed from the hall, and its live fence with it
abbrev pub IsRemoved : List Step → LinkFate → Type 0
IsRemoved steps (TurnedOut o) = Unit {0}
IsRemoved steps (Starved n) = IsAmong (Removed n) steps
IsRemoved steps (Unwatched n) = IsAmong (Removed n) steps
IsRemoved steps (Served n asking taking) = IsAmong (Removed n) steps × EndsFence steps n

abbrev pub AreRemoved : List Step → List LinkRun → Type 0
AreRemoved steps [] = Unit {0}
AreRemoved steps (run ∷ runs) = IsRemoved steps run.fate × AreRemoved steps runs
