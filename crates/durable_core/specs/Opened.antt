-- What the opening of a core answers for.
use Rattle.std.specs.Prelude.{◌≡◌, ◌⊎◌, ◌≤◌, ◌<◌, ℕ, Bool, true, [], Option, Some, Result, Ok, Err}
use Rattle.outside.specs.Crashes.{EachImage}
use Rattle.outside.specs.Sides.{Sides}
use Rattle.world_data.specs.declared.worlds.World.{World}
use Rattle.world_model.specs.declared.events.Opening.{Opening}
use Rattle.log_sides.specs.Texts.{newest}
use Rattle.journal.specs.Openings.{IsLeftByOpening, IsUnopened, opened_version}
use Rattle.journal.specs.declared.openings.OpenFault.{OpenFault}
use Rattle.journal.specs.declared.openings.OpenFault.TheVariants as fault_of
use Rattle.journal.specs.declared.openings.Unopened.{Unopened}
use Rattle.log_record.specs.Laws.{Stood}
use Rattle.log_record.specs.Recovery.{Recovers}
use Rattle.world_recovery.specs.Opened.{IsOpened}
use Rattle.durable_core.specs.Kept.{settled_log}
use Rattle.durable_core.specs.Logged.{hall_of, disk_of}
use Rattle.durable_core.specs.declared.cores.DurableCore.{DurableCore}

-- the disk of what an opening gave
abbrev pub left_disk : {D : Type 0} → Result (DurableCore D) (Unopened D) → D
left_disk (Ok c) = disk_of c
left_disk (Err u) = u.disk

-- from a disk to a new one the world is that of batches of whole records of some version, which were read
abbrev pub WasRead : {D : Type 0} → (D → Bool) → (D → Option Sides) → (D → ℕ) → (D → ℕ → Sides → Type 0) → D → D → World → Type 0
WasRead crashes seen moment left_since old new world =
    (version : ℕ) × IsOpened crashes seen moment left_since old new world version (λ batches. Unit {0})

-- these sides hold a log of an older version
abbrev pub IsOld : Sides → Type 0
IsOld s = opened_version s < newest

-- sides are recovered as the same world
abbrev pub AreAlike : Sides → Sides → Type 0
AreAlike s c = (w : World) × Recovers s w × Recovers c w

-- what a crash leaves during the opening of a core: what it might have left before, or a log without a batch where none had been begun; and
-- while a log of an older version is rewritten, a log of the same world
abbrev pub IsLeftByStart : (Sides → Type 0) → Sides → Sides → Type 0
IsLeftByStart images s c = IsLeftByOpening images s c ⊎ (IsOld s × AreAlike s c)

-- there was no memory for the world of a disk, which reads as a log of that world still
pub record ReadsAlike (seen : Option Sides) (s : Sides) (why : OpenFault) : Type 0 where
  pub cause : why ≡ fault_of.Memory
  pub world : World
  pub before : Recovers s world
  pub now : Sides
  pub told : seen ≡ Some now
  pub after : Recovers now world

-- a disk failed while a log of an older version was rewritten; whatever a crash leaves of it is a log of the same world
pub record IsHalfRewritten (crashes : Bool) (images : Sides → Type 0) (s : Sides) (why : OpenFault) : Type 0 where
  pub cause : why ≡ fault_of.Disk
  pub old : IsOld s
  pub world : World
  pub before : Recovers s world
  pub each : crashes ≡ true → EachImage images (λ image. Recovers image world)

-- a disk that was not opened reads as before, unless it failed while the first side was made, or as a log of the same world; or it failed
-- while a log of an older version was rewritten
abbrev pub IsHandedBack : Bool → Option Sides → (Sides → Type 0) → Sides → OpenFault → Type 0
IsHandedBack crashes seen images s why = IsUnopened seen s why ⊎ (ReadsAlike seen s why ⊎ IsHalfRewritten crashes images s why)

-- all stands at an opening with the hall's world and length, whose moment is not before an earlier one and whose count of faults is this one
pub record IsOpening {D : Type 0} (images : D → Sides → Type 0) (moment : D → ℕ) (left_since : D → ℕ → Sides
    → Type 0) (earlier count : ℕ) (c : DurableCore D) : Type 0 where
  pub opening : Opening
  pub world : opening.world ≡ (hall_of c).world
  pub logged : opening.logged ≡ (hall_of c).logged
  pub begun : earlier ≤ opening.moment
  pub count_is : opening.count ≡ count
  pub stood : Stood images moment left_since (disk_of c) opening [] (hall_of c) (settled_log (hall_of c).world)
