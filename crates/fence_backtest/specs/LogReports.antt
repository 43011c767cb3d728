-- What the report of a log is.
use Rattle.std.specs.Prelude.{◌≡◌, ◌≤◌, ℕ, Bool, true, List, Option, Some, Result, IfErr, OnOk}
use Rattle.byte_text.specs.Names.{Bytes}
use Rattle.outside.specs.Causes.{Rose}
use Rattle.outside.specs.Crashes.{LeavesOnly}
use Rattle.outside.specs.Sides.{Sides}
use Rattle.outside.specs.declared.sides.Side.{Side}
use Rattle.world_data.specs.declared.channels.Channel.{Channel}
use Rattle.world_data.specs.declared.worlds.Change.{Change}
use Rattle.journal.specs.Openings.{AllSafeOn}
use Rattle.journal.specs.declared.openings.OpenFault.{OpenFault}
use Rattle.journal.specs.declared.openings.OpenFault.TheVariants as fault_of
use Rattle.log_record.specs.Readings.{Damaged}
use Rattle.world_recovery.specs.Records.{records}
use Rattle.fence_backtest.specs.Reports.{report}

-- these are the changes of the records of a disk's log where the disk tells what it holds; and that is not damaged
pub record AreRecords (seen : Option Sides) (changes : List Change) : Type 0 where
  pub records_are : (s : Sides) → seen ≡ Some s → changes ≡ records s
  pub undamaged : (s : Sides) → seen ≡ Some s → (side : Side) (place : ℕ) → Damaged s side place → ⊥

-- A disk was read, and nothing made of it: where it tells what it holds it reads as before, and no crash leaves then what it might not have
-- left before; where there is a result, whatever a crash leaves is what it reads as.
pub record IsReadAlone {D T : Type 0} (crashes : D → Bool) (seen : D → Option Sides) (images : D → Sides → Type 0) (moment : D → ℕ) (left_since : D
    → ℕ → Sides → Type 0) (faults : D → ℕ) (old new : D) (result : Result T OpenFault) : Type 0 where
  pub same : (s : Sides) → seen old ≡ Some s → seen new ≡ Some s
  pub leaves : (s : Sides) → seen old ≡ Some s → crashes old ≡ true → LeavesOnly moment left_since old new (images old)
  pub safe : (s : Sides) → seen old ≡ Some s → OnOk result (AllSafeOn crashes seen images new s)
  pub told : crashes new ≡ crashes old
  pub later : faults old ≤ faults new
  pub cause : IfErr result (λ fault. fault ≡ fault_of.Disk → Rose (faults old) (faults new))

-- where its sides are answered as damaged, they are
abbrev pub TellsDamage : {T : Type 0} → Option Sides → Result T OpenFault → Type 0
TellsDamage seen result = (s : Sides) → seen ≡ Some s → IfErr result (λ fault. (side : Side) (place : ℕ) → fault ≡ fault_of.Damaged side place → Damaged s side place)

-- the report of such changes
pub record IsReported (seen : Option Sides) (c : Channel) (text : Bytes) : Type 0 where
  pub changes : List Change
  pub text_is : text ≡ report c changes
  pub are_records : AreRecords seen changes
