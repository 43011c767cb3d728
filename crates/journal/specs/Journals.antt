-- What contracts see of a journal.
use Rattle.std.specs.Prelude.{◌≡◌, ◌+◌, ◌≤◌, ◌^◌, ℕ, Bool, true, false, List, Option, Result, Ok, Err, OnOk, OnErr, IfErr, length, max}
use Rattle.byte_text.specs.Names.{Bytes}
use Rattle.outside.specs.Sides.{Sides}
use Rattle.log_sides.specs.Texts.{newest}
use Rattle.journal.specs.Keeping.{IsKept, new_gate}
use Rattle.outside.specs.Causes.{Rose}
use Rattle.journal.specs.declared.openings.Unopened.{Unopened}
use Rattle.journal.specs.declared.journals.Opened.{Opened}
use Rattle.journal.specs.declared.journals.Journal.{Journal}
use Rattle.journal.specs.declared.journals.JournalFault.{JournalFault}
use Rattle.journal.specs.declared.journals.JournalFault.TheVariants.{Disk, Failed}

-- the records that the next commit makes stand
abbrev pub pending : {D : Type 0} → Journal D → Bytes
pending j = j.log.pending

-- the bytes in front of the closed gate of the side in use, with those that are pending
abbrev pub log_bytes : {D : Type 0} → Journal D → ℕ
log_bytes j = j.log.gate + length j.log.pending

-- the disk of what an opening gave
abbrev pub disk_of : {D : Type 0} → Result (Opened D) (Unopened D) → D
disk_of (Ok o) = o.journal.disk
disk_of (Err u) = u.disk

-- the disk of a journal holds these committed batches, and its new side, where one is written, holds the copied ones
abbrev pub Keeps : {D : Type 0} → (D → Bool) → (D → Option Sides) → (D → Sides → Type 0) → Journal D → List Bytes → List Bytes → Type 0
Keeps crashes seen images j batches copied =
    IsKept (crashes j.disk) (seen j.disk) (images j.disk) j.log.side j.log.version j.log.generation j.log.gate j.rewriter batches copied

-- the log is of the newest version, and both sides have room for the pending batch with so many bytes more
abbrev pub HasRoom : {D : Type 0} → Journal D → ℕ → Type 0
HasRoom j bytes = (j.log.version ≡ newest) × (max j.log.gate (new_gate j.rewriter) + length j.log.pending + bytes + 10 ≤ 2 ^ 62)

-- all but the pending batch stays
pub record SameBut {D : Type 0} (old new : Journal D) : Type 0 where
  pub disk : new.disk ≡ old.disk
  pub side : new.log.side ≡ old.log.side
  pub version : new.log.version ≡ old.log.version
  pub generation : new.log.generation ≡ old.log.generation
  pub gate : new.log.gate ≡ old.log.gate
  pub rewriter : new.rewriter ≡ old.rewriter
  pub failed : new.failed ≡ old.failed

-- How a call of a journal ends: the count of the disk's faults has not fallen; a call that was not done has left a journal that has
-- failed; the disk is the cause only where its count rose; and a journal that had failed does nothing and says so.
pub record Ends {D : Type 0} {T : Type 0} (faults : D → ℕ) (old new : Journal D) (result : Result T JournalFault) : Type 0 where
  pub later : faults old.disk ≤ faults new.disk
  pub failed : OnErr result (new.failed ≡ true)
  pub cause : IfErr result (λ fault. fault ≡ Disk → Rose (faults old.disk) (faults new.disk))
  pub nothing : IfErr result (λ fault. fault ≡ Failed → (old.failed ≡ true) × (new ≡ old))
  pub refused : old.failed ≡ true → result ≡ Err Failed
  pub goes_on : OnOk result (new.failed ≡ false)
