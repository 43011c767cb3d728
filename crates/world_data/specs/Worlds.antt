-- Worlds: sorted lists of objects and channels, and what a change makes of them.
use Rattle.std.specs.Prelude.{Bool, not, ◌&&◌, ◌||◌, List, [], Option, filter, find}
use Rattle.byte_text.specs.Names.{Bytes, same, before}
use Rattle.ordered_lists.specs.Lists.{ascends, put_in}
use Rattle.world_data.specs.declared.objects.Object.{Object}
use Rattle.world_data.specs.declared.channels.Channel.{Channel}
use Rattle.world_data.specs.declared.worlds.World.{World}
use Rattle.world_data.specs.declared.worlds.Change.{Change}
use Rattle.world_data.specs.declared.worlds.Change.TheVariants.{Put, Del, Drop, Flush, SetChan, DelChan}

-- objects stand by key, then by id; channels by name
abbrev pub object_before : Object → Object → Bool
object_before o p = before o.key p.key || (same o.key p.key && before o.id p.id)

abbrev pub channel_before : Channel → Channel → Bool
channel_before c d = before c.name d.name

-- the object is the one of this key and id
abbrev pub is_at : Bytes → Bytes → Object → Bool
is_at key id o = same o.key key && same o.id id

abbrev pub has_key : Bytes → Object → Bool
has_key key o = same o.key key

abbrev pub is_named : Bytes → Channel → Bool
is_named name c = same c.name name

-- objects ascend by key and id, and channels by name: no pair and no name stands there twice
abbrev pub are_objects : List Object → Bool
are_objects objects = ascends object_before objects

abbrev pub are_channels : List Channel → Bool
are_channels channels = ascends channel_before channels

abbrev pub is_sorted_world : World → Bool
is_sorted_world w = are_objects w.objects && are_channels w.channels

abbrev pub empty_world : World
empty_world = record { objects = []; channels = [] }

-- the world with the change done
abbrev pub after : World → Change → World
after w (Put o) = record w { objects = put_in object_before o w.objects }
after w (Del key id) = record w { objects = filter (λ o. not (is_at key id o)) w.objects }
after w (Drop key) = record w { objects = filter (λ o. not (has_key key o)) w.objects }
after w Flush = empty_world
after w (SetChan c) = record w { channels = put_in channel_before c w.channels }
after w (DelChan name) = record w { channels = filter (λ c. not (is_named name c)) w.channels }

-- the object of a key and an id
abbrev pub object_at : World → Bytes → Bytes → Option Object
object_at w key id = find (is_at key id) w.objects

-- the channel of a name
abbrev pub channel_of : World → Bytes → Option Channel
channel_of w name = find (is_named name) w.channels

-- the objects of a key, by id
abbrev pub objects_of : World → Bytes → List Object
objects_of w key = filter (has_key key) w.objects
