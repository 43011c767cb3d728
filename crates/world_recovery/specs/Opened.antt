-- What the opening of a world answers for.
use Rattle.std.specs.Prelude.{◌≡◌, ◌≤◌, ℕ, Bool, true, List, Option, Some, Result, Ok, Err}
use Rattle.std.specs.List.{AllByRecursion}
use Rattle.byte_text.specs.Names.{Bytes}
use Rattle.outside.specs.Sides.{Sides}
use Rattle.outside.specs.Crashes.{EachSince}
use Rattle.world_data.specs.declared.worlds.World.{World}
use Rattle.world_data.specs.declared.worlds.Change.TheVariants.{Put, SetChan}
use Rattle.journal.specs.Logs.{HoldsLog}
use Rattle.journal.specs.Openings.{AreWhole}
use Rattle.log_record.specs.Words.{IsRecorded}
use Rattle.log_record.specs.Recovery.{Recovers}
use Rattle.world_recovery.specs.Recorded.{record_fault, world_in}
use Rattle.world_recovery.specs.declared.openings.OpenedWorld.{OpenedWorld}
use Rattle.journal.specs.declared.openings.Unopened.{Unopened}

-- from some moment between an old disk and a new one, whatever a crash might have left is recovered as this world
pub record RecoversSince {D : Type 0} (moment : D → ℕ) (left_since : D → ℕ → Sides → Type 0) (old new : D) (world : World) : Type 0 where
  pub since : ℕ
  pub begun : moment old ≤ since
  pub past : since ≤ moment new
  pub each : EachSince left_since new since (λ image. Recovers image world)

-- From a disk to a new one: the world is that of batches of whole records of a version, which are kept. Where the disk tells its contents these hold the
-- batches, and are recovered as the world; where it tells crashes, so is whatever one leaves, from some moment on.
pub record IsOpened {D : Type 0} (crashes : D → Bool) (seen : D → Option Sides) (moment : D → ℕ) (left_since : D → ℕ → Sides
    → Type 0) (old new : D) (world : World) (version : ℕ) (kept : List Bytes → Type 0) : Type 0 where
  pub batches : List Bytes
  pub whole : AreWhole (record_fault version) batches
  pub world_is : world ≡ world_in version batches
  pub holds : (s : Sides) → seen old ≡ Some s → HoldsLog version batches s
  pub keeps : (s : Sides) → seen old ≡ Some s → kept batches
  pub recovers : (s : Sides) → seen old ≡ Some s → Recovers s world
  pub since : (s : Sides) → seen old ≡ Some s → crashes old ≡ true → RecoversSince moment left_since old new world

-- each object and each channel has a record that fits a request
pub record AreRecorded (w : World) : Type 0 where
  pub objects : AllByRecursion (λ o. IsRecorded (Put o)) w.objects
  pub channels : AllByRecursion (λ c. IsRecorded (SetChan c)) w.channels

-- the disk of what an opening gave
abbrev pub disk_of : {D : Type 0} → Result (OpenedWorld D) (Unopened D) → D
disk_of (Ok o) = o.journal.disk
disk_of (Err u) = u.disk
