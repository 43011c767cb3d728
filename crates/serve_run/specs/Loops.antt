-- What a loop that serves links over readiness does.
use Rattle.std.specs.List.{AllByRecursion}
use Rattle.std.specs.Prelude.{◌≡◌, ◌⊎◌, ◌≤◌, ℕ, Bool, true, List, [], ◌++◌, Option, option_map}
use Rattle.outside.specs.Causes.{Rose}
use Rattle.world_model.specs.Seats.{Knows, Act}
use Rattle.byte_text.specs.Names.{Bytes}
use Rattle.repl_stream.specs.declared.asks.Ask.{Ask}
use Rattle.repl_stream.specs.declared.parts.Part.{Part}
use Rattle.outside.specs.Doors.{DoorState}
use Rattle.outside.specs.Waits.{WaitState}
use Rattle.session_run.specs.Gains.{Gains}
use Rattle.serve_run.specs.declared.tends.ServeEnd.{ServeEnd}
use Rattle.serve_run.specs.declared.tends.ServeEnd.TheVariants as end
use Rattle.serve_run.specs.declared.terms.Terms.{Terms}
use Rattle.serve_run.specs.declared.tendings.Tending.{Tending}
use Rattle.serve_run.specs.Feeds.{Feed, AreFed, FedBy}
use Rattle.serve_run.specs.Follows.{tending_from, AllFollow}
use Rattle.serve_run.specs.Pacing.{untended}
use Rattle.serve_run.specs.Tends.{IsLast}
use Rattle.serve_run.specs.Steps.{Step, steps_acts, callers_of, numbered, behind_callers, AreTimely}
use Rattle.serve_run.specs.Runs.{LinkRun, AreRuns, AreThrough, AreRemoved, FencesEnd, WatchFaults, MayEnd, FateCauses, times, times_shut, told_links}
use Rattle.serve_run.specs.Runs.{starved_of}

-- where a loop stands: what its seat has seen, its door, and the one that waits
pub record Around : Type 0 where
  pub knows : Knows
  pub door : DoorState
  pub wait : WaitState

abbrev pub around : Knows → DoorState → WaitState → Around
around knows door wait = record { knows = knows; door = door; wait = wait }

-- no caller comes any more: the door told so, or as many came as are served, or the end was asked for
abbrev pub IsLastCaller : Terms → Type 0 → Bool → ℕ → Type 0
IsLastCaller terms told over joined = told ⊎ ((joined ≡ terms.limit) ⊎ ((terms.until_end ≡ true) × (over ≡ true)))

-- Why the loop ended. No caller comes any more, and all links are through; or the door failed, or the one that waits; or a Tick or Rewrite
-- was answered so, by which memory had been wanted for long where it was that; or what a session of the server's own asked. Memory is free too
-- where the loop itself had none.
abbrev pub LoopEndsBy : ServeEnd → Option ℕ → Terms → Tending → List Act → Around → Around → ℕ → List LinkRun → Type 0
LoopEndsBy end.Done told terms t last old new joined runs = (last ≡ [])
    × IsLastCaller terms (Rose old.door.ends new.door.ends) new.wait.over joined × AreThrough runs
LoopEndsBy end.DoorFault told terms t last old new joined runs = (last ≡ [])
    × (Rose old.door.faults new.door.faults ⊎ Rose old.wait.faults new.wait.faults)
LoopEndsBy end.Stopped told terms t last old new joined runs = IsLast told terms t end.Stopped last
LoopEndsBy end.Spent told terms t last old new joined runs = IsLast told terms t end.Spent last
LoopEndsBy end.Memory told terms t last old new joined runs = IsLast told terms t end.Memory last ⊎ (last ≡ [])

-- The seat's new entries are those of these steps, and then the last ones, which brought the end. Each caller who came bears the next
-- number of the door; each is the caller of exactly one link, and none is left open: what was shut is told by the one that waits, link by
-- link, as each was then. For each link, its calls, its takes and what it was written are as its run says. Where the loop ends in order, no
-- session of a link is left in the hall; and just for those whose calls set the channel of their live fence its deletion was asked for behind
-- that, as far as the hall let it be asked. By itself the server asks that the log be rewritten only where the terms allow that and the
-- steps told that it has grown; and it goes on while they want memory, but not for long. Only where the terms allow followers are asks answered
-- out of the log, and each part is one that answers its ask, by what the hall tells of what the seat had seen then.
pub record ServesReady (told : Option ℕ) (answers : Knows → Ask → Part → Bytes → Type 0) (terms : Terms) (old new : Around)
    (joined starved : ℕ) (why : ServeEnd) : Type 0 where
  pub steps : List Step
  pub last : List Act
  pub gains : Gains old.knows new.knows (steps_acts steps ++ last)
  pub timely : AreTimely told steps
  pub feeds : List Feed
  pub fed : (mid : Knows) × AreFed feeds old.knows mid steps × Gains mid new.knows last
  pub fed_by : AllByRecursion (FedBy answers terms) feeds
  pub follow : AllFollow terms untended steps
  pub callers : callers_of steps ≡ numbered old.door.links joined
  pub door_links : new.door.links ≡ behind_callers old.door.links joined
  pub runs : List LinkRun
  pub are : AreRuns told steps runs
  pub once : (c : ℕ) → times_shut c runs ≡ times c (callers_of steps)
  pub shut : new.wait.shut ≡ option_map (λ links. links ++ told_links runs) old.wait.shut
  pub starved_are : starved ≡ starved_of runs
  pub unwatched : WatchFaults (Rose old.wait.faults new.wait.faults) runs
  pub early : FateCauses (MayEnd terms new.wait.over) runs
  pub opened : new.door.opened ≡ old.door.opened
  pub door_later : old.door.faults ≤ new.door.faults
  pub wait_later : old.wait.faults ≤ new.wait.faults
  pub removed : why ≡ end.Done → AreRemoved steps runs
  pub fences : FencesEnd steps
  pub within : joined ≤ terms.limit
  pub ended : LoopEndsBy why told terms (tending_from untended steps) last old new joined runs
