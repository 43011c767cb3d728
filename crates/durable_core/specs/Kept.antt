-- The log that a journal keeps: committed batches of whole records, and the records of what is pending.
use Rattle.std.specs.Prelude.{◌≡◌, ℕ, Bool, true, List, [], ◌++◌, Option, Result, OnOk}
use Rattle.std.specs.List.{AllByRecursion}
use Rattle.byte_text.specs.Names.{Bytes}
use Rattle.world_data.specs.declared.worlds.World.{World}
use Rattle.outside.specs.Crashes.{LeavesOnly}
use Rattle.outside.specs.Sides.{Sides}
use Rattle.log_sides.specs.Texts.{newest}
use Rattle.journal.specs.Journals.{Keeps, SameBut, pending}
use Rattle.journal.specs.Logs.{HasGrown}
use Rattle.journal.specs.Openings.{AreWhole}
use Rattle.log_record.specs.Versions.{IsRecordedIn}
use Rattle.log_record.specs.Batches.{records_text}
use Rattle.log_record.specs.Journals as log
use Rattle.world_recovery.specs.Recorded.{record_fault, world_in}
use Rattle.durable_core.specs.Rewriting.{IsCopyWhile}
use Rattle.durable_core.specs.Written.{KeepsGrown, KeepsSided, Sided}
use Rattle.durable_core.specs.declared.tails.Tail.{Tail}

-- the log of a world with nothing pending
abbrev pub settled_log : World → log.Journal
settled_log w = record { committed = w; pending = [] }

-- the batches make the committed world, and the records of the pending changes are pending, each of which is read back from its record in the
-- log's version; where the log is rewritten, the copied batches make a part of that world
pub record IsKeptBy {D : Type 0} (crashes : D → Bool) (seen : D → Option Sides) (images : D → Sides
    → Type 0) (t : Tail D) (j : log.Journal) : Type 0 where
  pub batches : List Bytes
  pub copied : List Bytes
  pub keeps : Keeps crashes seen images t.journal batches copied
  pub whole : AreWhole (record_fault t.journal.log.version) batches
  pub committed : j.committed ≡ world_in t.journal.log.version batches
  pub pending_is : pending t.journal ≡ records_text j.pending
  pub recorded : AllByRecursion (IsRecordedIn t.journal.log.version) j.pending
  pub copies : IsCopyWhile t.rewriting t.journal.log.version copied batches

-- these bytes are pending, and else the tail is as before
pub record HasPending {D : Type 0} (crashes : D → Bool) (seen : D → Option Sides) (images : D → Sides
    → Type 0) (old new : Tail D) (bytes : Bytes) : Type 0 where
  pub pending_is : pending new.journal ≡ bytes
  pub same : SameBut old.journal new.journal
  pub rewriting : new.rewriting ≡ old.rewriting
  pub kept : (batches copied : List Bytes) → Keeps crashes seen images old.journal batches copied
      → Keeps crashes seen images new.journal batches copied

-- these records were put behind what is pending in a log of the newest version
pub record HasPushed {D : Type 0} (crashes : D → Bool) (seen : D → Option Sides) (images : D → Sides
    → Type 0) (old : Tail D) (records : Bytes) (new : Tail D) : Type 0 where
  pub latest : old.journal.log.version ≡ newest
  pub pends : HasPending crashes seen images old new (pending old.journal ++ records)

-- from a log another is come to of the same world; at each moment between a crash leaves the committed world, or the whole one, in a log that
-- grew from the one before; and so did the one that is kept then
pub record LeadsTo {D E : Type 0} (crashes : D → Bool) (seen : D → Option Sides) (images : D → Sides → Type 0) (moment : D → ℕ) (left_since : D → ℕ
    → Sides → Type 0) (old new : Tail D) (result : Result Unit E) (before after : log.Journal) : Type 0 where
  pub same : log.whole after ≡ log.whole before
  pub leaves : crashes old.journal.disk ≡ true → log.Leaves moment left_since old.journal.disk new.journal.disk before
  pub kept : OnOk result (IsKeptBy crashes seen images new after)
  pub leaves_grown : crashes old.journal.disk ≡ true → (s : Sided) → KeepsSided crashes seen images old.journal s
      → LeavesOnly moment left_since old.journal.disk new.journal.disk (HasGrown old.journal.log.generation s.batches)
  pub grown : OnOk result ((s : Sided) → KeepsSided crashes seen images old.journal s
      → KeepsGrown crashes seen images new.journal old.journal.log.generation s.batches)
