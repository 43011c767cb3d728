-- What a replay stands for, and how it refuses bytes.
use Rattle.std.specs.Prelude.{◌≡◌, ◌≤◌, ℕ, List, ◌++◌, length, Option, Some, IfSome}
use Rattle.std.specs.List.{AllByRecursion}
use Rattle.byte_text.specs.Names.{Bytes}
use Rattle.byte_text.specs.Streams.{begun, request}
use Rattle.world_data.specs.declared.worlds.Change.{Change}
use Rattle.world_data.specs.declared.worlds.World.{World}
use Rattle.journal.specs.declared.replays.Refusal.{Refusal}
use Rattle.journal.specs.declared.replays.Refusal.TheVariants.{NoRecord}
use Rattle.log_record.specs.Versions.{IsRecordedIn}
use Rattle.log_record.specs.Folding.{folded}
use Rattle.log_record.specs.Batches.{records_text}
use Rattle.world_recovery.specs.Recorded.{record_fault, world_in}

-- What contracts see of a replay: the version that it reads, its world, the bytes that wait for the end of their record, how many bytes of the batch were taken, and how
-- many of these are whole records.
pub record Replayed : Type 0 where
  pub version : ℕ
  pub world : World
  pub waiting : Option Bytes
  pub taken : ℕ
  pub place : ℕ

-- the bytes that wait begin a record
abbrev pub Begins : Option Bytes → Type 0
Begins waiting = IfSome waiting (λ bytes. request bytes ≡ begun)

-- A world, the bytes that wait, and how many bytes of a batch were taken and how many of these are whole records: they stand for these
-- batches and this part of the next one. The part is the records of some changes, which are made of the batches' world, and the
-- beginning of one more.
pub record Stands (version : ℕ) (world : World) (waiting : Option Bytes) (taken place : ℕ) (batches : List Bytes) (part : Bytes) : Type 0 where
  pub changes : List Change
  pub beginning : Bytes
  pub text : part ≡ records_text changes ++ beginning
  pub recorded : AllByRecursion (IsRecordedIn version) changes
  pub goes_on : request beginning ≡ begun
  pub waits : waiting ≡ Some beginning
  pub taken_is : taken ≡ length part
  pub place_is : place ≡ length (records_text changes)
  pub world_is : world ≡ folded (world_in version batches) changes

-- whatever comes behind these bytes, the first that are no record of a version stand at this place of them
pub record IsNoRecord (version : ℕ) (bytes : Bytes) (place : ℕ) : Type 0 where
  pub within : place ≤ length bytes
  pub none : (rest : Bytes) → record_fault version (bytes ++ rest) ≡ Some place

-- the same of a replay, which reads this version
abbrev pub StandsFor : Replayed → ℕ → List Bytes → Bytes → Type 0
StandsFor r version batches part = (r.version ≡ version) × Stands version r.world r.waiting r.taken r.place batches part

-- a refusal of bytes that names a place
abbrev pub IsRefused : ℕ → Bytes → Refusal → Type 0
IsRefused version bytes refusal = (at : ℕ) → refusal ≡ NoRecord at → IsNoRecord version bytes at
