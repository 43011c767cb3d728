-- Pages of what a search found.
use Rattle.std.specs.Prelude.{◌≡◌, ℕ, List, [], ◌∷◌, filter_map, find, map, Some}
use Rattle.byte_text.specs.Names.{Bytes}
use Rattle.byte_text.specs.Replies.{array, number}
use Rattle.byte_text.specs.declared.replies.Piece.{Piece}
use Rattle.collection.specs.Objects.{has_id}
use Rattle.world_data.specs.declared.objects.Object.{Object}
use Rattle.world_data.specs.declared.queries.Query.{Query}
use Rattle.world_model.specs.Replies.{item_reply}

-- the objects of these ids, where they are there
abbrev pub objects_of_ids : List Object → List Bytes → List Object
objects_of_ids objects ids = filter_map (λ id. find (has_id id) objects) ids

-- the object is the first of its id
abbrev pub IsFirst : List Object → Object → Type 0
IsFirst objects o = find (has_id o.id) objects ≡ Some o

-- the reply of a page: where the next one begins, and the items
abbrev pub listing : Query → ℕ → List Object → List Piece
listing q cursor objects = array (number cursor ∷ array (map (item_reply q) objects) ∷ [])
