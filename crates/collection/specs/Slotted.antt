-- Objects in slots, in the order of a list of keys.
use Rattle.std.specs.Prelude.{ℕ, ◌≡◌, ◌≤◌, ◌+◌, ◌-◌, min, Bool, ◌&&◌, not, true, false, nat_eq, List, [], ◌∷◌, length, is_some, Option, Some, None}
use Rattle.std.specs.Prelude.{filter_map}
use Rattle.std.specs.List.{list_all, list_any}
use Rattle.byte_text.specs.Names.{Bytes, before}
use Rattle.world_data.specs.declared.objects.Object.{Object}
use Rattle.run_list.specs.Runs.{Sequence}
use Rattle.rtree.specs.Trees.{Seen}
use Rattle.collection.specs.Deadlines.{AreDues}
use Rattle.collection.specs.Boxed.{AreInTree}

-- the objects that these keys have
abbrev pub objects_at : (ℕ → Option Object) → List ℕ → List Object
objects_at slots keys = filter_map slots keys

-- each key has an object
abbrev pub are_stored : (ℕ → Option Object) → List ℕ → Bool
are_stored slots keys = list_all (λ k. is_some (slots k)) keys

-- no key stands twice
abbrev pub are_apart : List ℕ → Bool
are_apart [] = true
are_apart (k ∷ keys) = not (list_any (nat_eq k) keys) && are_apart keys

-- keys of objects, no key twice
pub record AreSlotted (slots : ℕ → Option Object) (keys : List ℕ) : Type 0 where
  pub stored : are_stored slots keys ≡ true
  pub apart : are_apart keys ≡ true

-- whether there is an object, and it stands before an id
abbrev pub stands_before : Bytes → Option Object → Bool
stands_before id None = false
stands_before id (Some o) = before o.id id

-- keys of objects, those of objects with a deadline once more, and room for all to have one, and a tree of the objects' boxes
pub record AreKept (slots : ℕ → Option Object) (keys : List ℕ) (dues : Sequence) (boxes : Seen) : Type 0 where
  pub slotted : AreSlotted slots keys
  pub expiring : AreDues slots keys dues.items
  pub room : length keys ≤ length dues.items + dues.spare
  pub in_tree : AreInTree slots keys boxes.pairs

-- for how many objects more there is room, in slots of which so many are used, in both lists of keys, and in the tree
abbrev pub room_of : ℕ → ℕ → Sequence → Sequence → Seen → ℕ
room_of used capacity keys dues boxes = min (min (min (capacity - used) keys.spare) (length dues.items + dues.spare - length keys.items)) boxes.spare
