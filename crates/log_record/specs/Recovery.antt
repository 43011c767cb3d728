-- What is recovered of an image.
use Rattle.std.specs.Prelude.{◌≡◌, ◌⊎◌, Option, Some, None}
use Rattle.world_data.specs.Worlds.{empty_world}
use Rattle.world_data.specs.declared.worlds.World.{World}
use Rattle.outside.specs.Sides.{Sides}
use Rattle.outside.specs.Crashes.{EachImage}
use Rattle.log_record.specs.Readings.{Reading, fresh, stands, damaged, reading}

-- the world that an opening begins with
abbrev pub world_read : Reading → Option World
world_read fresh = Some empty_world
world_read (stands standing) = Some standing.world
world_read (damaged side place) = None

-- opening these sides begins with this world: they stand for it, or they are fresh and it is empty
unfoldable pub Recovers : Sides → World → Type 0
Recovers image w = world_read (reading image) ≡ Some w

-- either of two worlds is recovered
abbrev pub RecoversEither : World → World → Sides → Type 0
RecoversEither v w image = Recovers image v ⊎ Recovers image w

-- a crash leaves something, and whatever it leaves is recovered as this world
pub record Holds (images : Sides → Type 0) (w : World) : Type 0 where
  pub some : (image : Sides) × images image
  pub each : EachImage images (λ image. Recovers image w)
