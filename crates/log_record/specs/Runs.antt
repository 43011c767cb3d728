-- Runs: a disk that serves one history after another.
use Rattle.std.specs.Prelude.{◌≡◌, ◌≤◌, ℕ, List, [], ◌∷◌, ◌++◌, take}
use Rattle.world_model.specs.Halls.{Hall}
use Rattle.world_model.specs.Histories.{opening_hall, Step, Reaches}
use Rattle.world_model.specs.declared.events.Entry.{Entry}
use Rattle.world_model.specs.declared.events.Opening.{Opening}
use Rattle.outside.specs.Sides.{Sides}
use Rattle.outside.specs.Crashes.{LeavesOnly}
use Rattle.log_record.specs.Recovery.{Recovers, Holds}
use Rattle.log_record.specs.Safety.{moment_after, ComesNext, Run, entries_of, start_of, SafeRun}
use Rattle.log_record.specs.Journals.{Journal, KeepsLog, Turn, TellsNow}

-- the run with one history more
abbrev pub and_then : Run → Opening → List Entry → Run
and_then run o entries = run ++ (o, entries) ∷ []

-- behind a run, a history that led to a hall, over a disk that is safe for all of it and a journal that keeps the hall's log
pub record RunStood {D : Type 0} (images : D → Sides → Type 0) (moment : D → ℕ) (left_since : D → ℕ → Sides → Type 0) (disk : D) (run : Run)
    (o : Opening) (entries : List Entry) (h : Hall) (j : Journal) : Type 0 where
  pub reached : Reaches o entries h
  pub past : (n : ℕ) → moment_after (start_of (and_then run o entries)) (take n (entries_of (and_then run o entries))) ≤ moment disk
  pub safe : SafeRun left_since disk (and_then run o entries)
  pub log : KeepsLog (images disk) h j

-- one more entry
abbrev pub TurnsKeepRunsSafe : {D : Type 0} → (D → Sides → Type 0) → (D → ℕ) → (D → ℕ → Sides → Type 0) → Type 0
TurnsKeepRunsSafe {D} images moment left_since =
    (old new : D) (run : Run) (o : Opening) (entries : List Entry) (e : Entry) (h next : Hall) (before after : Journal)
    → TellsNow images moment left_since old → TellsNow images moment left_since new
    → RunStood images moment left_since old run o entries h before
    → Step h e.event e.outcome next → ComesNext o entries e
    → Turn images moment left_since old new h before e.event e.outcome next after → e.moment ≡ moment new
    → RunStood images moment left_since new run o (entries ++ e ∷ []) next after

-- one more history, which opens with the world that the last one left behind, where a crash in between leaves that world
abbrev pub OpeningsKeepRunsSafe : {D : Type 0} → (D → Sides → Type 0) → (D → ℕ) → (D → ℕ → Sides → Type 0) → Type 0
OpeningsKeepRunsSafe {D} images moment left_since = (old new : D) (run : Run) (o p : Opening) (entries : List Entry) (h : Hall) (j : Journal)
    → RunStood images moment left_since old run o entries h j → h.world ≡ p.world
    → LeavesOnly moment left_since old new (λ image. Recovers image p.world) → Holds (images new) p.world
    → RunStood images moment left_since new (and_then run o entries) p [] (opening_hall p.world p.logged)
    (record { committed = p.world; pending = [] })
