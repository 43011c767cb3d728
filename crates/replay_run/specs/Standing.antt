-- Over the calls of a core its disk stays safe for all that was made, and so does the disk that is handed back.
use Rattle.std.specs.Prelude.{◌≡◌, ◌≤◌, ℕ, min, Bool, true, false, List, [], ◌∷◌, ◌++◌, length, Option, Result, IfOk, IfErr, OnOk}
use Rattle.outside.specs.Causes.{most_count, Rose}
use Rattle.outside.specs.Crashes.{EachImage}
use Rattle.outside.specs.Sides.{Sides}
use Rattle.world_model.specs.Halls.{Hall}
use Rattle.world_model.specs.Histories.{IsRun, answer}
use Rattle.world_model.specs.declared.events.CallOutcome.TheVariants as called
use Rattle.world_model.specs.declared.events.Event.TheVariants as event
use Rattle.world_model.specs.declared.events.Entry.{Entry}
use Rattle.world_model.specs.declared.events.Opening.{Opening}
use Rattle.log_record.specs.Journals.{Journal}
use Rattle.log_record.specs.Safety.{Run, moment_after, count_after, out_after, entries_of, RecoversPassed, RunPasses, SafeRun}
use Rattle.log_record.specs.Runs.{and_then, RunStood}
use Rattle.durable_core.specs.Histories.{writing_of}
use Rattle.durable_core.specs.Logged.{hall_of, disk_of, KeepsLogOf}
use Rattle.durable_core.specs.declared.cores.DurableCore.{DurableCore}
use Rattle.replay_run.specs.Rewritings.{Rewrites}
use Rattle.replay_run.specs.Traces.{Deed, does, deeds_of}
use Rattle.replay_run.specs.declared.halts.Halt.{Halt}
use Rattle.replay_run.specs.declared.halts.Halt.TheVariants as halted

-- A disk is safe for a run that shows these deeds. Where the last of them is a retirement that was answered Ok, nothing is pending any more:
-- whatever a crash leaves is recovered as the world after the whole run.
pub record IsSafeFor {D : Type 0} (images : D → Sides → Type 0) (left_since : D → ℕ → Sides → Type 0) (disk : D) (deeds : List Deed) : Type 0 where
  pub run : Run
  pub is_run : IsRun run
  pub shows : deeds_of run ≡ deeds
  pub safe : SafeRun left_since disk run
  pub settled : (before : List Deed) → deeds ≡ before ++ does event.Retire (answer called.Ok) ∷ []
      → EachImage (images disk) (RecoversPassed (RunPasses run) (length (entries_of run)) (length (entries_of run)))

-- these deeds are those of a run, whose last history leads to a hall; a disk is safe for the run
pub record IsBehind {D : Type 0} (images : D → Sides → Type 0) (moment : D → ℕ) (left_since : D → ℕ → Sides → Type 0) (faults : D
    → ℕ) (disk : D) (h : Hall) (deeds : List Deed) : Type 0 where
  pub run : Run
  pub opening : Opening
  pub entries : List Entry
  pub log : Journal
  pub shows : deeds_of (and_then run opening entries) ≡ deeds
  pub is_run : IsRun (and_then run opening entries)
  pub stood : RunStood images moment left_since disk run opening entries h log
  pub past : moment_after opening.moment entries ≤ moment disk
  pub counted : count_after opening.count entries ≤ min (faults disk) most_count

-- so does a core's hall, which goes on; and its log is kept
pub record StandsBehind {D : Type 0} (crashes : D → Bool) (seen : D → Option Sides) (images : D → Sides → Type 0) (moment : D → ℕ) (left_since : D → ℕ
    → Sides → Type 0) (faults : D → ℕ) (core : DurableCore D) (deeds : List Deed) : Type 0 where
  pub behind : IsBehind images moment left_since faults (disk_of core) (hall_of core) deeds
  pub kept : KeepsLogOf crashes seen images core behind.log
  pub within : out_after false behind.entries ≡ false
  pub told : crashes (disk_of core) ≡ true

-- the core keeps a log, unless it has stopped
abbrev pub Logs : {D : Type 0} → (D → Bool) → (D → Option Sides) → (D → Sides → Type 0) → DurableCore D → Type 0
Logs crashes seen images core = (j : Journal) × KeepsLogOf crashes seen images core j

-- From one core to another these deeds were made: a log is kept still, it is rewritten as they say, and the disk stays safe for all.
pub record StaysSafe {D : Type 0} (crashes : D → Bool) (seen : D → Option Sides) (images : D → Sides → Type 0) (moment : D → ℕ) (left_since : D → ℕ
    → Sides → Type 0) (faults : D → ℕ) (old new : DurableCore D) (deeds : List Deed) : Type 0 where
  pub logs : Logs crashes seen images old → Logs crashes seen images new
  pub rewrites : Logs crashes seen images old → Rewrites (hall_of old) (writing_of old) deeds (hall_of new) (writing_of new)
  pub stands : (before : List Deed) → StandsBehind crashes seen images moment left_since faults old before
      → StandsBehind crashes seen images moment left_since faults new (before ++ deeds)

-- some deeds were made, of which P and `Keeps` hold
abbrev pub Left : (List Deed → Type 0) → (List Deed → Type 0) → Type 0
Left Keeps P = (deeds : List Deed) × P deeds × Keeps deeds

-- What comes of the calls of a line, from one core to another. Where they were done, P holds of the answer and of the deeds that were
-- made, and the hall goes on; where not, Q holds of the cause and of what was made. Over both the disk stays safe, and it is the cause
-- only where its count rose.
pub record Comes {D T : Type 0} (crashes : D → Bool) (seen : D → Option Sides) (images : D → Sides → Type 0) (moment : D → ℕ) (left_since : D → ℕ
    → Sides → Type 0) (faults : D → ℕ) (old new : DurableCore D) (P : T → List Deed → Type 0) (Q : Halt → List Deed
    → Type 0) (result : Result T Halt) : Type 0 where
  pub done : IfOk result (λ x. Left (StaysSafe crashes seen images moment left_since faults old new) (P x))
  pub failed : IfErr result (λ halt. Left (StaysSafe crashes seen images moment left_since faults old new) (Q halt))
  pub goes : OnOk result ((hall_of new).stopped ≡ false)
  pub cause : IfErr result (λ halt. halt ≡ halted.DiskFault → Rose (faults (disk_of old)) (faults (disk_of new)))
  pub later : faults (disk_of old) ≤ faults (disk_of new)
