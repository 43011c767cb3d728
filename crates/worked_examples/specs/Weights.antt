-- How a change moves the weight of a world.
use Rattle.std.specs.Prelude.{◌≡◌, ℕ, ◌+◌, true, filter, sum_by}
use Rattle.world_data.specs.Worlds.{after, is_sorted_world, is_at, has_key, is_named}
use Rattle.world_data.specs.Records.{record_len, weight}
use Rattle.world_data.specs.declared.objects.Object.{Object}
use Rattle.world_data.specs.declared.channels.Channel.{Channel}
use Rattle.world_data.specs.declared.worlds.World.{World}
use Rattle.world_data.specs.declared.worlds.Change.{Change}
use Rattle.world_data.specs.declared.worlds.Change.TheVariants.{Put, Del, Drop, Flush, SetChan, DelChan}

-- the bytes of the record of an object, and of a channel
abbrev pub object_len : Object → ℕ
object_len o = record_len (Put o)

abbrev pub channel_len : Channel → ℕ
channel_len c = record_len (SetChan c)

-- what a change adds to the weight
abbrev pub gained : Change → ℕ
gained (Put o) = object_len o
gained (Del key id) = 0
gained (Drop key) = 0
gained Flush = 0
gained (SetChan c) = channel_len c
gained (DelChan name) = 0

-- what a change takes from it: the records of what it replaces or deletes
abbrev pub lost : World → Change → ℕ
lost w (Put o) = sum_by object_len (filter (is_at o.key o.id) w.objects)
lost w (Del key id) = sum_by object_len (filter (is_at key id) w.objects)
lost w (Drop key) = sum_by object_len (filter (has_key key) w.objects)
lost w Flush = weight w
lost w (SetChan c) = sum_by channel_len (filter (is_named c.name) w.channels)
lost w (DelChan name) = sum_by channel_len (filter (is_named name) w.channels)

abbrev pub WeightIsCounted : Type 0
WeightIsCounted = (w : World) (c : Change) → is_sorted_world w ≡ true → weight (after w c) + lost w c ≡ weight w + gained c
