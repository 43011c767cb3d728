-- What a look at a disk finds, and what it leaves of it.
use Rattle.std.specs.Prelude.{◌≡◌, ◌⊎◌, ℕ, Bool, true, List, ◌∷◌, length, Option, Some, is_some}
use Rattle.byte_text.specs.Names.{Bytes}
use Rattle.outside.specs.Crashes.{EachImage, LeavesOnly}
use Rattle.outside.specs.Sides.{Sides}
use Rattle.outside.specs.declared.sides.Side.{Side}
use Rattle.world_data.specs.declared.worlds.World.{World}
use Rattle.world_model.specs.Histories.{opening_hall}
use Rattle.world_model.specs.declared.events.CallOutcome.{CallOutcome}
use Rattle.world_model.specs.declared.events.CallOutcome.TheVariants as called
use Rattle.append_log.specs.Logs.{StandsIn}
use Rattle.log_record.specs.Recovery.{Recovers}
use Rattle.replay_run.specs.HandedBack.{HoldsWorld}
use Rattle.replay_run.specs.Openings.{Opens}
use Rattle.replay_run.specs.Plays.{Retires, retired}
use Rattle.replay_run.specs.Standing.{IsSafeFor}
use Rattle.replay_run.specs.Traces.{opens}

-- the disk is opened with a world, of so many objects and channels, and then retired
pub record IsFound (seen : Option Sides) (w : World) (logged objects channels : ℕ) (answered : CallOutcome) : Type 0 where
  pub opens : Opens seen w logged
  pub objects_are : objects ≡ length w.objects
  pub channels_are : channels ≡ length w.channels
  pub retires : Retires (opening_hall w logged) answered
  pub fine : (answered ≡ called.Ok) ⊎ (answered ≡ called.LogFault)

-- the side in use has this generation
abbrev pub IsOfGeneration : ℕ → Sides → Type 0
IsOfGeneration generation s = (side : Side) × (version : ℕ) × (batches : List Bytes) × StandsIn s side version generation batches

-- so it has as the disk reads, and whatever a crash leaves
pub record HasGeneration (crashes : Bool) (seen : Option Sides) (images : Sides → Type 0) (generation : ℕ) : Type 0 where
  pub sides : Sides
  pub told : seen ≡ Some sides
  pub now : IsOfGeneration generation sides
  pub each : crashes ≡ true → EachImage images (IsOfGeneration generation)

-- What a look leaves of a disk that was opened with a world and retired. Where the disk tells what it holds and the retirement was answered
-- Ok, it holds a log of this world and this generation. Where it tells crashes, it is safe for the opening and the retirement, and at no
-- moment might one have left what it might not have left before, but for a log of this world.
pub record IsLookedAt {D : Type 0} (crashes : D → Bool) (seen : D → Option Sides) (images : D → Sides → Type 0) (moment : D → ℕ) (left_since : D
    → ℕ → Sides → Type 0) (disk left : D) (w : World) (logged generation : ℕ) (answered : CallOutcome) : Type 0 where
  pub holds : is_some (seen disk) ≡ true → answered ≡ called.Ok → HoldsWorld (seen left) w
  pub counted : is_some (seen disk) ≡ true → answered ≡ called.Ok → HasGeneration (crashes left) (seen left) (images left) generation
  pub safe : (s : Sides) → seen disk ≡ Some s → crashes disk ≡ true → IsSafeFor images left_since left (opens w logged ∷ retired answered)
  pub leaves : (s : Sides) → seen disk ≡ Some s → crashes disk ≡ true
      → LeavesOnly moment left_since disk left (λ image. images disk image ⊎ Recovers image w)
