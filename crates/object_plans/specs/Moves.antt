-- What is done to the objects of a world.
use Rattle.std.specs.Prelude.{◌≡◌, true, not, List, [], ◌∷◌, filter, find, Some, Ok}
use Rattle.byte_text.specs.Names.{Bytes}
use Rattle.geo_text.specs.Texts.{shape_of}
use Rattle.ordered_lists.specs.Lists.{put_in}
use Rattle.world_data.specs.Worlds.{object_before, has_key, is_at}
use Rattle.world_data.specs.declared.objects.Object.{Object}
use Rattle.world_data.specs.declared.channels.Channel.{Channel}
use Rattle.world_data.specs.declared.worlds.World.{World}
use Rattle.keyspace.specs.Entries.{Entry, objects_in, has_room}
use Rattle.object_plans.specs.declared.moves.ObjectChange.{ObjectChange}
use Rattle.object_plans.specs.declared.moves.ObjectChange.TheVariants.{Stay, Put, Delete, DeleteEach, DropKey, Clear}

-- the world of these channels and objects
abbrev pub world_with : List Channel → List Object → World
world_with channels objects = record { objects = objects; channels = channels }

-- the world of these objects alone
abbrev pub world_of : List Object → World
world_of objects = world_with [] objects

-- the world of the objects of all keys
abbrev pub world_in : List Entry → World
world_in entries = world_of (objects_in entries)

-- the objects without those of these ids of a key, which go one after another
abbrev pub without_each : Bytes → List Bytes → List Object → List Object
without_each key [] objects = objects
without_each key (id ∷ ids) objects = without_each key ids (filter (λ o. not (is_at key id o)) objects)

-- each of these ids has an object of the key when it is taken out, after those before it
abbrev pub AllThere : Bytes → List Bytes → List Object → Type 0
AllThere key [] objects = Unit {0}
AllThere key (id ∷ ids) objects = ((o : Object) × (find (is_at key id) objects ≡ Some o)) × AllThere key ids
    (filter (λ o. not (is_at key id o)) objects)

-- the objects after what is done to them: one is put in its place, the one of a key and an id is taken out, those of these ids of a key are, those of
-- a key are, or all
abbrev pub moved : List Object → ObjectChange → List Object
moved objects Stay = objects
moved objects (Put o) = put_in object_before o objects
moved objects (Delete key id) = filter (λ o. not (is_at key id o)) objects
moved objects (DeleteEach key ids) = without_each key ids objects
moved objects (DropKey key) = filter (λ o. not (has_key key o)) objects
moved objects Clear = []

-- it holds of the object that is put
abbrev pub HoldsOfPut : (Object → Type 0) → ObjectChange → Type 0
HoldsOfPut P (Put o) = P o
HoldsOfPut P Stay = Unit {0}
HoldsOfPut P (Delete key id) = Unit {0}
HoldsOfPut P (DeleteEach key ids) = Unit {0}
HoldsOfPut P (DropKey key) = Unit {0}
HoldsOfPut P Clear = Unit {0}

-- an object's text has its shape
abbrev pub IsAccepted : Object → Type 0
IsAccepted o = shape_of o.text ≡ Ok o.shape

-- the objects that are taken out by their ids are there
abbrev pub HaveAllThere : List Object → ObjectChange → Type 0
HaveAllThere objects Stay = Unit {0}
HaveAllThere objects (Put o) = Unit {0}
HaveAllThere objects (Delete key id) = AllThere key (id ∷ []) objects
HaveAllThere objects (DeleteEach key ids) = AllThere key ids objects
HaveAllThere objects (DropKey key) = Unit {0}
HaveAllThere objects Clear = Unit {0}

-- there is room for what is put
abbrev pub HasRoom : List Entry → ObjectChange → Type 0
HasRoom entries action = HoldsOfPut (λ o. has_room entries o ≡ true) action
