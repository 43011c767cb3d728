-- How keys and their objects stand in a keyspace.
use Rattle.std.specs.Prelude.{◌≡◌, ◌≤◌, ℕ, Bool, ◌&&◌, List, []}
use Rattle.std.specs.List.{list_all, insert}
use Rattle.byte_text.specs.Names.{Bytes}
use Rattle.ordered_lists.specs.Lists.{ascends}
use Rattle.world_data.specs.Worlds.{has_key}
use Rattle.collection.specs.Objects.{Held, are_by_id}
use Rattle.keyspace.specs.Entries.{Entry, key_before}

-- the objects of an entry are of its key, and stand by id
abbrev pub is_entry : Entry → Bool
is_entry e = list_all (has_key e.key) e.objects && are_by_id e.objects

-- entries stand in byte order of their keys, no key twice
abbrev pub are_entries : List Entry → Bool
are_entries entries = ascends key_before entries && list_all is_entry entries

-- an entry without its key
abbrev pub held_of : Entry → Held
held_of e = record { objects = e.objects; spare = e.spare }

-- the entries with one more at a place, of this key, with no object and with room
pub record IsAdded (key : Bytes) (old : List Entry) (at : ℕ) (new : List Entry) : Type 0 where
  pub one : Entry
  pub key_is : one.key ≡ key
  pub none : one.objects ≡ []
  pub room : 1 ≤ one.spare
  pub made : new ≡ insert old at one
