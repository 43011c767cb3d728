-- What the opening of a script's disk gives.
use Rattle.std.specs.Prelude.{◌≡◌, ℕ, Option, Some}
use Rattle.outside.specs.Sides.{Sides}
use Rattle.outside.specs.declared.sides.Side.{Side}
use Rattle.world_data.specs.Sound.{IsSoundWorld}
use Rattle.world_data.specs.declared.worlds.World.{World}
use Rattle.journal.specs.Openings.{opened_len}
use Rattle.log_record.specs.Readings.{Damaged}
use Rattle.log_record.specs.Recovery.{Recovers}

-- The world that a disk is opened with is sound; where the disk tells what it holds, it is the one that this is recovered as, and the log
-- is as long as the side in use, or the one that is made.
pub record Opens (seen : Option Sides) (w : World) (logged : ℕ) : Type 0 where
  pub sound : IsSoundWorld w
  pub recovered : (s : Sides) → seen ≡ Some s → Recovers s w
  pub length : (s : Sides) → seen ≡ Some s → logged ≡ opened_len s

-- where the disk tells what it holds, its sides are damaged there
abbrev pub IsDamagedAt : Option Sides → Side → ℕ → Type 0
IsDamagedAt seen side place = (s : Sides) → seen ≡ Some s → Damaged s side place
