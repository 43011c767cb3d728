-- The objects of all keys, key by key.
use Rattle.std.specs.Prelude.{ℕ, Bool, ◌||◌, not, nat_le, ◌==◌, List, [], ◌∷◌, length, map, flat_map, if◌then◌else◌}
use Rattle.std.specs.List.{list_all, list_any}
use Rattle.byte_text.specs.Names.{Bytes, same, before}
use Rattle.world_data.specs.Worlds.{is_at, has_key}
use Rattle.world_data.specs.declared.objects.Object.{Object}

-- a key with its objects by id, and how many more of them there is room for
pub record Entry : Type 0 where
  pub key : Bytes
  pub objects : List Object
  pub spare : ℕ

abbrev pub key_before : Entry → Entry → Bool
key_before e f = before e.key f.key

abbrev pub is_entry_of : Bytes → Entry → Bool
is_entry_of key e = same e.key key

abbrev pub has_objects : Entry → Bool
has_objects e = not (length e.objects == 0)

-- all objects, in order of key and id
abbrev pub objects_in : List Entry → List Object
objects_in entries = flat_map (λ e. e.objects) entries

-- the keys, in byte order
abbrev pub keys_of : List Entry → List Bytes
keys_of entries = map (λ e. e.key) entries

-- the key has an object
abbrev pub is_held : List Object → Bytes → Bool
is_held objects key = list_any (has_key key) objects

-- each of these keys has an object
abbrev pub are_held : List Bytes → List Object → Bool
are_held keys objects = list_all (is_held objects) keys

-- how many more objects of a key there is room for
abbrev pub room_for : List Entry → Bytes → ℕ
room_for [] key = 0
room_for (e ∷ entries) key = if is_entry_of key e then e.spare else room_for entries key

-- there is room for the object, or one of its key and id to take the place of
abbrev pub has_room : List Entry → Object → Bool
has_room entries o = nat_le 1 (room_for entries o.key) || list_any (is_at o.key o.id) (objects_in entries)
