-- The log of a core, and what a call of the core owes to it.
use Rattle.std.specs.Prelude.{◌≡◌, ℕ, Bool, true, false, Option}
use Rattle.world_model.specs.Halls.{Hall}
use Rattle.world_model.specs.declared.events.Event.{Event}
use Rattle.world_model.specs.declared.events.Outcome.{Outcome}
use Rattle.outside.specs.Crashes.{LeavesOnly}
use Rattle.outside.specs.Sides.{Sides}
use Rattle.journal.specs.Logs.{HasGrown}
use Rattle.log_record.specs.Journals.{Journal, Turn, whole}
use Rattle.log_record.specs.Laws.{KeepsSafe}
use Rattle.durable_core.specs.Kept.{IsKeptBy}
use Rattle.durable_core.specs.Rewriting.{Shown, shown_by}
use Rattle.durable_core.specs.Written.{KeepsSided, Sided}
use Rattle.durable_core.specs.declared.cores.DurableCore.{DurableCore}

-- the hall of a core, which stops where the disk fails, and where the core is retired
abbrev pub hall_of : {D : Type 0} → DurableCore D → Hall
hall_of c = record c.core.hall { stopped = c.stopped }

abbrev pub disk_of : {D : Type 0} → DurableCore D → D
disk_of c = c.tail.journal.disk

-- what a core shows of the rewriting of its log
abbrev pub shown_of : {D : Type 0} → DurableCore D → Shown
shown_of c = shown_by c.tail.rewriting (hall_of c).world

abbrev pub generation_of : {D : Type 0} → DurableCore D → ℕ
generation_of c = c.tail.journal.log.generation

abbrev pub version_of : {D : Type 0} → DurableCore D → ℕ
version_of c = c.tail.journal.log.version

-- the log is the one that the journal keeps, and all of it makes the hall's world
pub record IsLogOf {D : Type 0} (crashes : D → Bool) (seen : D → Option Sides) (images : D → Sides
    → Type 0) (c : DurableCore D) (j : Journal) : Type 0 where
  pub kept : IsKeptBy crashes seen images c.tail j
  pub world : (hall_of c).world ≡ whole j

-- the same of a core that goes on; of one that has stopped nothing is said
abbrev pub KeepsLogOf : {D : Type 0} → (D → Bool) → (D → Option Sides) → (D → Sides → Type 0) → DurableCore D → Journal → Type 0
KeepsLogOf crashes seen images c j = (hall_of c).stopped ≡ false → IsLogOf crashes seen images c j

-- from one disk to another an event with its outcome did what it owes, and so keeps the disk safe
pub record Owes {D : Type 0} (images : D → Sides → Type 0) (moment : D → ℕ) (left_since : D → ℕ → Sides
    → Type 0) (old new : D) (h : Hall) (event : Event) (outcome : Outcome) (next : Hall) (before after : Journal) : Type 0 where
  pub turn : Turn images moment left_since old new h before event outcome next after
  pub safe : KeepsSafe images moment left_since old new h before event outcome next after

-- over a call of a core its log goes on from one to another, and where the disk tells crashes the call did to it what it owes, and at no moment
-- left a log that did not grow from the one before
pub record GoesOn {D : Type 0} (crashes : D → Bool) (seen : D → Option Sides) (images : D → Sides → Type 0) (moment : D → ℕ) (left_since : D → ℕ
    → Sides → Type 0) (old new : DurableCore D) (event : Event) (outcome : Outcome) (before : Journal) : Type 0 where
  pub after : Journal
  pub log : KeepsLogOf crashes seen images new after
  pub owes : crashes (disk_of old) ≡ true
      → Owes images moment left_since (disk_of old) (disk_of new) (hall_of old) event outcome (hall_of new) before after
  pub leaves_grown : crashes (disk_of old) ≡ true → (s : Sided) → KeepsSided crashes seen images old.tail.journal s
      → LeavesOnly moment left_since (disk_of old) (disk_of new) (HasGrown (generation_of old) s.batches)
