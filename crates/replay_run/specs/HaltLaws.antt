-- Why a disk was not opened, and the halt that tells of it.
use Rattle.std.proofs.Common.{◌≡◌, ◌≢◌, ℕ}
use Rattle.outside.specs.declared.sides.Side.{Side}
use Rattle.journal.specs.declared.openings.OpenFault.{OpenFault}
use Rattle.journal.specs.declared.openings.OpenFault.TheVariants as fault_of
use Rattle.replay_run.specs.declared.halts.Halt.TheVariants as halted
use Rattle.replay_run.specs.Undone.{halt_at}

-- an opening does not find the log at its greatest length
pub unspent_at : (why : OpenFault) → halt_at why ≢ halted.Spent
unspent_at (fault_of.Damaged side place) e = absurd (cc)
unspent_at fault_of.Disk e = absurd (cc)
unspent_at fault_of.Memory e = absurd (cc)

-- damage is told of a damage there alone
pub damaged_at : (why : OpenFault) (side : Side) (place : ℕ) → halt_at why ≡ halted.Damaged side place → why ≡ fault_of.Damaged side place
damaged_at (fault_of.Damaged a n) side place e = cc
damaged_at fault_of.Disk side place e = absurd (cc)
damaged_at fault_of.Memory side place e = absurd (cc)
