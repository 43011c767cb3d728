-- The reply to GET for an object that is there.
use Rattle.std.specs.Prelude.{Bool, if◌then◌else◌, List, [], ◌∷◌}
use Rattle.byte_text.specs.Replies.{array}
use Rattle.byte_text.specs.declared.replies.Piece.{Piece}
use Rattle.world_data.specs.declared.objects.Object.{Object}
use Rattle.world_data.specs.declared.queries.Shown.{Shown}
use Rattle.world_model.specs.Replies.{object_reply, fields_reply}

-- the object as it is shown, or an array of that and its fields
abbrev pub get_pieces : Bool → Shown → Object → List Piece
get_pieces with_fields how o = if with_fields then array (object_reply how o ∷ fields_reply o.fields ∷ []) else object_reply how o
