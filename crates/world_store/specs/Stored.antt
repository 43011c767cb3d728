-- What holds of a stored world, and the world that its parts are.
use Rattle.std.specs.Prelude.{◌≡◌, ℕ, ◌<◌, ◌^◌, ◌-◌, min, Bool, true, false, List, Option, length, sum_by, unwrap_or}
use Rattle.world_data.specs.declared.objects.Object.{Object}
use Rattle.world_data.specs.declared.worlds.World.{World}
use Rattle.world_data.specs.declared.worlds.Change.{Change}
use Rattle.world_data.specs.declared.worlds.Change.TheVariants.{Put, Del, Drop, Flush, SetChan, DelChan}
use Rattle.record_writer.specs.Lengths.{HasFewFields, HaveFewFields, len_of}
use Rattle.collection.specs.Objects as of_objects
use Rattle.channel_hub.specs.Dues as of_channels
use Rattle.keyspace.specs.Entries.{objects_in}
use Rattle.world_store.specs.declared.stored_worlds.StoreParts.{StoreParts}

-- an object that is put has few fields
abbrev pub HasFew : Change → Type 0
HasFew (Put o) = HasFewFields o
HasFew (Del key id) = Unit {0}
HasFew (Drop key) = Unit {0}
HasFew Flush = Unit {0}
HasFew (SetChan c) = Unit {0}
HasFew (DelChan name) = Unit {0}

-- a change that puts something, which takes memory
abbrev pub is_put : Change → Bool
is_put (Put o) = true
is_put (Del key id) = false
is_put (Drop key) = false
is_put Flush = false
is_put (SetChan c) = true
is_put (DelChan name) = false

-- objects of this weight, so few that each has a place
pub record AreStored (objects : List Object) (weight : ℕ) : Type 0 where
  pub weighed : weight ≡ sum_by len_of objects
  pub fields : HaveFewFields objects
  pub few : length objects < 2 ^ 32

abbrev pub world_of : StoreParts → World
world_of parts = record { objects = objects_in parts.objects; channels = parts.hub.channels }

-- the lesser of two moments; the greatest one of 64 bits stands for a moment that is not there
abbrev pub earlier_of : Option ℕ → Option ℕ → ℕ
earlier_of first second = min (unwrap_or first (2 ^ 64 - 1)) (unwrap_or second (2 ^ 64 - 1))

-- no deadline of a world comes before this moment
abbrev pub due_from : World → ℕ
due_from w = earlier_of (of_objects.least_due w.objects) (of_channels.least_due w.channels)
