-- What comes next where a world is copied piece by piece: what stands behind a place.
use Rattle.std.specs.Prelude.{◌≡◌, ◌≤◌, ◌<◌, ℕ, find, Bool, true, false, ◌&&◌, ◌||◌, List, Option, Some, None, slice_get}
use Rattle.std.specs.Borrow.{Bor}
use Rattle.byte_text.specs.Names.{Bytes, same, before}
use Rattle.byte_text.specs.declared.names.Name.{Name}
use Rattle.world_data.specs.Worlds.{has_key}
use Rattle.world_data.specs.declared.objects.Object.{Object}
use Rattle.world_data.specs.declared.channels.Channel.{Channel}
use Rattle.keyspace.specs.Entries.{Entry, has_objects, objects_in}

-- the object stands behind this key and this id
abbrev pub is_behind : Bytes → Bytes → Object → Bool
is_behind key id o = before key o.key || (same key o.key && before id o.id)

-- the channel stands behind this name
abbrev pub is_behind_name : Bytes → Channel → Bool
is_behind_name name c = before name c.name

-- the object has an id behind this one
abbrev pub has_id_behind : Bytes → Object → Bool
has_id_behind id o = before id o.id

-- the key stands behind this one
abbrev pub has_key_behind : Bytes → Entry → Bool
has_key_behind key e = before key e.key

-- of the items of a list that have something: those in front of a place do not pass a test, and those from another one on do
module _ {A : Type 0} (has test : A → Bool) (xs : List A) where
  abbrev pub IsInFront : ℕ → Type 0
  IsInFront low = (k : ℕ) (x : A) → k < low → slice_get xs k ≡ Some x → has x ≡ true → test x ≡ false

  abbrev pub IsAtBack : ℕ → Type 0
  IsAtBack high = (k : ℕ) (x : A) → high ≤ k → slice_get xs k ≡ Some x → has x ≡ true → test x ≡ true

-- none between two places has anything
abbrev pub AreBare : {A : Type 0} → (A → Bool) → List A → ℕ → ℕ → Type 0
AreBare {A} has xs low high = (k : ℕ) (x : A) → low ≤ k → k < high → slice_get xs k ≡ Some x → has x ≡ false

-- the first key that has an object and passes a test stands there
abbrev pub IsKeyPlace : (Bytes → Bool) → List Entry → ℕ → Type 0
IsKeyPlace test entries at = slice_get entries at ≡ find (λ e. has_objects e && test e.key) entries

-- the object is the first of the key at a place
pub record IsFirstOf (entries : List Entry) (at : ℕ) (o : Object) : Type 0 where
  pub entry : Entry
  pub stands : slice_get entries at ≡ Some entry
  pub first : find (has_key entry.key) (objects_in entries) ≡ Some o

-- the first object of the key at a place, which has one; none past the last key
abbrev pub FirstOf : List Entry → ℕ → Option Object → Type 0
FirstOf entries at None = slice_get entries at ≡ None
FirstOf entries at (Some o) = IsFirstOf entries at o

-- the words that names are, where they are given
abbrev pub name_in : Option (Bor Name) → Option Bytes
name_in None = None
name_in (Some name) = Some name.now

abbrev pub place_in : Option (Bor Name × Bor Name) → Option (Bytes × Bytes)
place_in None = None
place_in (Some place) = Some (place.0.now, place.1.now)

-- all stand behind no place

abbrev pub is_next_key : Option Bytes → Bytes → Bool
is_next_key None key = true
is_next_key (Some after) key = before after key

abbrev pub is_next_channel : Option Bytes → Channel → Bool
is_next_channel None c = true
is_next_channel (Some name) c = is_behind_name name c

abbrev pub is_next_object : Option (Bytes × Bytes) → Object → Bool
is_next_object None o = true
is_next_object (Some place) o = is_behind place.0 place.1 o
