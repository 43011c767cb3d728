-- What goes by its deadline, and in which order.
use Rattle.std.specs.Prelude.{◌≡◌, ℕ, pos, true, false, [], ◌∷◌, codes, Option, Some, None}
use Prim.Native.String.{String}
use Rattle.planar_geom.specs.Points.{pt}
use Rattle.planar_geom.specs.declared.shapes.Area.TheVariants.{Rect}
use Rattle.world_data.specs.declared.channels.Channel.{Channel}
use Rattle.world_data.specs.declared.channels.Kind.TheVariants.{Within}
use Rattle.world_data.specs.declared.channels.Watch.TheVariants.{Zone}
use Rattle.world_data.specs.declared.objects.Object.{Object}
use Rattle.world_data.specs.declared.worlds.World.{World}
use Rattle.world_data.specs.declared.worlds.Change.TheVariants.{Del, DelChan}
use Rattle.fence_model.specs.Writes.{Write, due_writes}
use Rattle.worked_examples.specs.Commands.{line}
use Rattle.worked_examples.specs.LogTexts.{spot}

-- the object of this id with this deadline
abbrev object : String → Option ℕ → Object
object id deadline = record spot { id = codes id; deadline = deadline }

-- a channel on a square with this deadline
abbrev channel : String → Option ℕ → Channel
channel name deadline = record {
  name = codes name;
  fence = record {
    key = codes "k";
    glob = None;
    tests = [];
    wanted = record { inside = true; outside = true; enter = true; exit = true; cross = true; set = true; del = true; drop = true };
    watch = Zone Within (Rect (record { min = pt (pos 0) (pos 0); max = pt (pos 5) (pos 5) }));
  };
  words = line "WITHIN k FENCE BOUNDS 0 0 5 5";
  deadline = deadline;
}

abbrev del : String → Write
del id = record { change = Del (codes "k") (codes id); announced = true }

abbrev end : String → Write
end name = record { change = DelChan (codes name); announced = false }

-- two objects and the channel between them
abbrev world : World
world = record { objects = object "a" (Some 1000) ∷ object "b" (Some 2000) ∷ []; channels = channel "z" (Some 1000) ∷ [] }

-- some that stay, and others in no order
abbrev many : World
many = record {
  objects = object "a" (Some 3000) ∷ object "b" (Some 1000) ∷ object "c" None ∷ object "d" (Some 3000) ∷ [];
  channels = channel "v" (Some 3000) ∷ channel "w" (Some 2000) ∷ channel "x" None ∷ channel "y" (Some 2000) ∷ channel "z" (Some 0) ∷ [];
}

pub record HoldsExpiry : Type 0 where
  pub none_yet : due_writes world 999 ≡ []
  -- at one deadline the object goes first
  pub two : due_writes world 1000 ≡ del "a" ∷ end "z" ∷ []
  pub three : due_writes world 2000 ≡ del "a" ∷ end "z" ∷ del "b" ∷ []
  pub most : due_writes many 2999 ≡ end "z" ∷ del "b" ∷ end "w" ∷ end "y" ∷ []
  pub all : due_writes many 3000 ≡ end "z" ∷ del "b" ∷ end "w" ∷ end "y" ∷ del "a" ∷ del "d" ∷ end "v" ∷ []
