-- How parts of a loop's round leave it, and what ends it.
use Rattle.std.specs.Prelude.{◌≡◌, ◌⊎◌, ◌≤◌, ◌++◌, ◌∷◌, ℕ, Bool, true, false, List, [], Option, Some, None, Result, Ok, Err, option_map}
use Rattle.std.specs.List.{slice_get, AllByRecursion}
use Rattle.outside.specs.Causes.{Rose}
use Rattle.world_model.specs.Seats.{Knows}
use Rattle.outside.specs.Links.{LinkState}
use Rattle.outside.specs.Doors.{DoorState}
use Rattle.outside.specs.Waits.{WaitState}
use Rattle.session_run.specs.Sessions.{SessionState}
use Rattle.serve_run.specs.declared.tends.ServeEnd.{ServeEnd}
use Rattle.serve_run.specs.declared.tends.ServeEnd.TheVariants as end
use Rattle.serve_run.specs.declared.joins.Unseated.{Unseated}
use Rattle.serve_run.specs.declared.joins.Unseated.TheVariants as unseated
use Rattle.serve_run.specs.declared.terms.Terms.{Terms}
use Rattle.serve_run.specs.declared.tendings.Tending.{Tending}
use Rattle.serve_run.specs.Feeds.{Feed}
use Rattle.serve_run.specs.Tends.{TendsLast}
use Rattle.serve_run.specs.Loops.{Around, IsLastCaller}
use Rattle.serve_run.specs.LoopStates.{LoopState, loop_state, Holds, NoneOpen}

-- the one that waits was told of a link that was shut, or could not tell it
abbrev pub ShutBy : WaitState → WaitState → Bool → LinkState → Type 0
ShutBy old new true link = new ≡ record old { shut = option_map (λ links. links ++ link ∷ []) old.shut }
ShutBy old new false link = new ≡ old

-- the end that the removal of a session brings, or want of memory where its link could not be told
abbrev pub end_behind : Option ServeEnd → Bool → Option ServeEnd
end_behind (Some e) is_told = Some e
end_behind None true = None
end_behind None false = Some end.Memory

-- an empty place was found or made in a table
abbrev pub HasPlace : List (Option SessionState) → List (Option SessionState) → Type 0
HasPlace old new = (new ≡ old) ⊎ (new ≡ old ++ None ∷ [])

-- a link was watched under its place's number, or could not be
abbrev pub IsPlaced : List (Option SessionState) → WaitState → WaitState → Result ℕ Unseated → Type 0
IsPlaced new w w' (Ok place) = (slice_get new place ≡ Some None) × (w' ≡ w)
IsPlaced new w w' (Err unseated.Starved) = w' ≡ w
IsPlaced new w w' (Err unseated.Unwatched) = Rose w.faults w'.faults × (w.faults ≤ w'.faults) × (w' ≡ record w { faults = w'.faults })

-- the loop goes on no more
abbrev pub stopped : Knows → LoopState → LoopState
stopped mid t = record t { around = record t.around { knows = mid }; goes_on = false }

-- where all are through the loop goes on up to its end
abbrev pub at_end : ServeEnd → Knows → LoopState → LoopState
at_end end.Done mid t = record t { around = record t.around { knows = mid }; goes_on = true }
at_end e mid t = stopped mid t

-- no caller comes any more
abbrev pub IsLastOf : Terms → Bool → ℕ → Bool → Type 0
IsLastOf terms over joined is_over = IsLastCaller terms (is_over ≡ true) over joined

-- why a loop ends, from where it began, behind these tends: the last entries of the seat are those behind `mid`
abbrev pub EndsFrom : Option ℕ → Terms → Tending → ServeEnd → Around → LoopState → Knows → Type 0
EndsFrom told terms t end.Done old s mid = (mid ≡ s.around.knows) × NoneOpen s.places
    × IsLastOf terms s.around.wait.over s.joined s.is_over
EndsFrom told terms t end.DoorFault old s mid = (mid ≡ s.around.knows) × (Rose old.door.faults s.around.door.faults
    ⊎ Rose old.wait.faults s.around.wait.faults)
EndsFrom told terms t end.Stopped old s mid = TendsLast told terms t mid s.around.knows end.Stopped
EndsFrom told terms t end.Spent old s mid = TendsLast told terms t mid s.around.knows end.Spent
EndsFrom told terms t end.Memory old s mid = TendsLast told terms t mid s.around.knows end.Memory ⊎ (mid ≡ s.around.knows)

-- what a loop kept it keeps, or it ends so
abbrev pub Leaves : Option ℕ → Terms → Around → Tending → List Feed → LoopState → Option ServeEnd → Type 0
Leaves told terms old t feeds s None = Holds told terms old t feeds s
Leaves told terms old t feeds s (Some e) = (mid : Knows) × (last : Tending) × Holds told terms old last feeds (at_end e mid s)
    × EndsFrom told terms last e old s mid

-- the same, from a state on, by steps that may tend
abbrev pub RoundTurn : Option ℕ → Terms → Tending → Tending → LoopState → LoopState → Option ServeEnd → Type 0
RoundTurn told terms t t' s s' result = (old : Around) → (feeds : List Feed) → Holds told terms old t feeds s
    → Leaves told terms old t' feeds s' result

-- the same, where asks may have been answered out of the log, each so
abbrev pub LeavesBy : (Feed → Type 0) → Option ℕ → Terms → Around → Tending → LoopState → Option ServeEnd → Type 0
LeavesBy By told terms old t s result = (feeds : List Feed) × AllByRecursion By feeds × Leaves told terms old t feeds s result

abbrev pub FeedsTurn : (Feed → Type 0) → Option ℕ → Terms → Tending → Tending → LoopState → LoopState → Option ServeEnd → Type 0
FeedsTurn By told terms t t' s s' result = (old : Around) → (feeds : List Feed) → AllByRecursion By feeds → Holds told terms old t feeds s
    → LeavesBy By told terms old t' s' result

-- by steps that don't tend
abbrev pub LoopTurn : Option ℕ → Terms → LoopState → LoopState → Option ServeEnd → Type 0
LoopTurn told terms s s' result = (t : Tending) → RoundTurn told terms t t s s' result

-- the seat's own entries were made that were due
abbrev pub KeepsAside : Option ℕ → Terms → Tending → Tending → Knows → Knows → Type 0
KeepsAside told terms t t' k k' = (places : List (Option SessionState)) → (d : DoorState) → (w : WaitState) → (joined starved : ℕ)
    → (is_over goes_on : Bool) → (old : Around) → (feeds : List Feed)
    → Holds told terms old t feeds (loop_state k d w places joined starved is_over goes_on)
    → Holds told terms old t' feeds (loop_state k' d w places joined starved is_over goes_on)

-- the same, or those behind them brought the end
abbrev pub TendsTable : Option ℕ → Terms → Tending → Tending → Knows → Knows → Option ServeEnd → Type 0
TendsTable told terms t t' k k' None = KeepsAside told terms t t' k k'
TendsTable told terms t t' k k' (Some e) = (mid : Knows) × (last : Tending) × KeepsAside told terms t last k mid
    × TendsLast told terms last mid k' e
