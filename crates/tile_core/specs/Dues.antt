-- What is due: the objects and channels whose deadline has come, and what stands after they are taken out.
use Rattle.std.specs.Prelude.{◌≡◌, ℕ, ◌+◌, ◌≤◌, true, not, List, [], ◌∷◌, ◌++◌, filter, find, length, map, Option, Some, sum_by}
use Rattle.std.specs.List.{AllByRecursion}
use Rattle.byte_text.specs.Names.{Bytes}
use Rattle.ordered_lists.specs.Lists.{sorted_by, put_in}
use Rattle.world_data.specs.Worlds.{object_at, object_before, are_objects, has_key, is_at, after}
use Rattle.world_data.specs.Records.{weight, record_len}
use Rattle.world_data.specs.Expiry.{is_due, is_channel_due, due_before, channel_due_before, deletions}
use Rattle.fence_model.specs.Writes.{dels, going}
use Rattle.world_data.specs.declared.channels.Channel.{Channel}
use Rattle.world_data.specs.declared.objects.Object.{Object}
use Rattle.world_data.specs.declared.worlds.Change.TheVariants as change
use Rattle.world_data.specs.declared.worlds.World.{World}
use Rattle.keyspace.specs.Entries.{Entry, room_for}
use Rattle.channel_hub.specs.Hubs.{Held}
use Rattle.tile_core.specs.declared.dues.Expired.{Expired}
use Rattle.tile_core.specs.declared.channel_dues.ExpiredChannels.{ExpiredChannels}
use Rattle.object_plans.specs.Beside.{channels_weight}
use Rattle.object_plans.specs.Moves.{IsAccepted, world_of}
use Rattle.record_writer.specs.Lengths.{HaveFewFields, len_of_channel}
use Rattle.delivery_model.specs.Staging.{after_all, records_len}

-- the deadline, if there is one, does not come before this moment
abbrev pub IsNotBefore : ℕ → Option ℕ → Type 0
IsNotBefore due_from deadline = (d : ℕ) → deadline ≡ Some d → due_from ≤ d

-- no deadline comes before this moment
abbrev pub IsDueFrom : ℕ → Object → Type 0
IsDueFrom due_from o = IsNotBefore due_from o.deadline

abbrev pub AreDueFrom : ℕ → List Object → Type 0
AreDueFrom due_from objects = AllByRecursion (IsDueFrom due_from) objects

abbrev pub IsChannelDueFrom : ℕ → Channel → Type 0
IsChannelDueFrom due_from c = IsNotBefore due_from c.deadline

abbrev pub AreChannelsDueFrom : ℕ → List Channel → Type 0
AreChannelsDueFrom due_from channels = AllByRecursion (IsChannelDueFrom due_from) channels

-- the objects with those that were taken out put back
abbrev pub with_back : List Object → List Object → List Object
with_back objects [] = objects
with_back objects (h ∷ held) = put_in object_before h (with_back objects held)

-- there is room for all that was taken out
abbrev pub HaveRoom : List Entry → List Object → Type 0
HaveRoom entries held = (key : Bytes) → length (filter (has_key key) held) ≤ room_for entries key

-- each of these objects stands in the world when it is deleted, after those before it
abbrev pub AllStand : World → List Object → Type 0
AllStand w [] = Unit {0}
AllStand w (o ∷ held) = (object_at w o.key o.id ≡ Some o) × AllStand (after w (change.Del o.key o.id)) held

-- these were taken out of objects of this weight in the order in which they expire, with dels whose records have this length, and this is left of
-- them
pub record IsTaken (old : List Object) (now total : ℕ) (objects held : List Object) (len rest : ℕ) : Type 0 where
  pub back : with_back objects held ≡ old
  pub order : held ++ sorted_by due_before (filter (is_due now) objects) ≡ sorted_by due_before (filter (is_due now) old)
  pub world : after_all (world_of old) (dels held) ≡ world_of objects
  pub stand : AllStand (world_of old) held
  pub sorted : are_objects objects ≡ true
  pub few : HaveFewFields objects
  pub accepted : AllByRecursion IsAccepted objects
  pub length_is : len ≡ records_len (dels held)
  pub rest_is : rest ≡ weight (world_of objects)
  pub small : len + rest ≤ total
  pub count : length objects + length held ≤ length old

-- the one that expires first was taken out
pub record IsTakenOut (old : List Object) (now : ℕ) (objects held more : List Object) (len longer rest less : ℕ) : Type 0 where
  pub object : Object
  pub first : sorted_by due_before (filter (is_due now) old) ≡ object ∷ sorted_by due_before (filter (is_due now) objects)
  pub here : find (is_at object.key object.id) old ≡ Some object
  pub left : objects ≡ filter (λ o. not (is_at object.key object.id o)) old
  pub held_is : more ≡ held ++ object ∷ []
  pub length_is : longer ≡ len + record_len (change.Del object.key object.id)
  pub rest_is : less + record_len (change.Put object) ≡ rest

-- all that was due then is taken out
pub record IsExpired (old : List Object) (now total : ℕ) (objects : List Object) (g : Expired) : Type 0 where
  pub taken : IsTaken old now total objects g.held.items g.length g.weight
  pub none : filter (is_due now) objects ≡ []
  pub due_from : AreDueFrom g.due_from objects

-- channels

-- the records of the deletions of these channels have this length, and without them the channels have this weight; together no more than all
pub record AreCounted (total : ℕ) (channels : List Channel) (g : ExpiredChannels) : Type 0 where
  pub length_is : g.length ≡ records_len (map going (deletions channels))
  pub weight_is : g.weight + sum_by len_of_channel channels ≡ total
  pub small : g.length + g.weight ≤ total

-- of channels of this weight those that are due are out, in the order in which they expire
pub record AreOut (old : Held) (now total : ℕ) (hub : Held) (g : ExpiredChannels) : Type 0 where
  pub channels : hub.channels ≡ filter (λ c. not (is_channel_due now c)) old.channels
  pub taken : hub.taken ≡ sorted_by channel_due_before (filter (is_channel_due now) old.channels)
  pub every : hub.every ≡ old.channels
  pub length_is : g.length ≡ records_len (map going (deletions hub.taken))
  pub weight_is : g.weight ≡ channels_weight hub.channels
  pub small : g.length + g.weight ≤ total
  pub due_from : AreChannelsDueFrom g.due_from hub.channels
