-- What is left of a disk that is handed back.
use Rattle.std.specs.Prelude.{◌≡◌, ℕ, Bool, true, Option, Some}
use Rattle.outside.specs.Crashes.{LeavesOnly}
use Rattle.outside.specs.Sides.{Sides}
use Rattle.world_data.specs.declared.worlds.World.{World}
use Rattle.journal.specs.declared.openings.OpenFault.{OpenFault}
use Rattle.log_record.specs.Recovery.{Recovers}
use Rattle.durable_core.specs.Opened.{IsHandedBack, IsLeftByStart}
use Rattle.replay_run.specs.declared.halts.Halt.{Halt}
use Rattle.replay_run.specs.Undone.{halt_at}

-- a disk tells what it holds, and this is recovered as a world
abbrev pub HoldsWorld : Option Sides → World → Type 0
HoldsWorld seen w = (s : Sides) × (seen ≡ Some s) × Recovers s w

module _ {D : Type 0} (crashes : D → Bool) (seen : D → Option Sides) (images : D → Sides → Type 0) (moment : D → ℕ) (left_since : D → ℕ → Sides
    → Type 0) (disk left : D) where
  -- What an opening that failed leaves of a disk. Where the disk tells what it holds, it reads as before, or, where memory wanted behind the
  -- reading, as a log of the same world; unless it failed while its first side was made, or while a log of an older version was rewritten,
  -- behind which each crash leaves a log of the same world. Where it tells crashes, at no moment might one have left what it might not have
  -- left before, but for a log without a batch where none had been begun, and one of the same world where the log was of an older version.
  pub record IsBackUnopened (why : OpenFault) : Type 0 where
    pub reads : (s : Sides) → seen disk ≡ Some s → IsHandedBack (crashes left) (seen left) (images left) s why
    pub leaves : (s : Sides) → seen disk ≡ Some s → crashes disk ≡ true
        → LeavesOnly moment left_since disk left (IsLeftByStart (images disk) s)

  -- by the halt that tells of it
  abbrev pub IsBackAt : Halt → Type 0
  IsBackAt halt = (why : OpenFault) × (halt ≡ halt_at why) × IsBackUnopened why
