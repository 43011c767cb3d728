-- The shapes of replies, as pieces of RESP2.
use Rattle.std.specs.Prelude.{ℕ, ℤ, pos, neg_ℤ, ◌+◌, ◌-◌, ◌/◌, ◌%◌, Bool, true, false, ◌==◌, List, [], ◌∷◌, ◌++◌, length, map, flat_map, sum_by, zip}
use Rattle.std.specs.Prelude.{Option, Some, None, if◌then◌else◌, codes}
use Rattle.std.specs.Fmt.{signed_decimal}
use Rattle.byte_text.specs.Names.{Bytes}
use Rattle.byte_text.specs.Replies.{array, bulk, number}
use Rattle.byte_text.specs.declared.replies.Piece.{Piece}
use Rattle.byte_text.specs.declared.replies.Piece.TheVariants as piece
use Rattle.planar_geom.specs.Points.{Point, Bounds, centre}
use Rattle.planar_geom.specs.Shapes.{all_vertices, positions, box_of, box_of_points}
use Rattle.world_data.specs.Filters.{Field, value_text}
use Rattle.world_data.specs.declared.values.Value.{Value}
use Rattle.fence_model.specs.Queries.{page_items, page_cursor}
use Rattle.world_model.specs.Subscriptions.{Sub, counts_with}
use Rattle.world_data.specs.declared.objects.Object.{Object}
use Rattle.world_data.specs.declared.channels.Channel.{Channel}
use Rattle.world_data.specs.declared.queries.Shown.{Shown}
use Rattle.world_data.specs.declared.queries.Shown.TheVariants as shown
use Rattle.world_data.specs.declared.queries.Query.{Query}

-- an error, which begins with ERR
abbrev pub error : Bytes → List Piece
error t = piece.Fault (codes "ERR " ++ t) ∷ []

-- the null bulk string, and the null array
abbrev pub null : List Piece
null = piece.NoBulk ∷ []

abbrev pub no_list : List Piece
no_list = piece.NoList ∷ []

-- a number as a bulk string, and as an integer
abbrev pub number_text : ℤ → List Piece
number_text z = bulk (signed_decimal z)

-- the value of a field as a bulk string
abbrev pub value_reply : Value → List Piece
value_reply v = bulk (value_text v)

abbrev pub integer_reply : ℤ → List Piece
integer_reply z = piece.Number z ∷ []

-- latitude, then longitude
abbrev pub point_reply : Point → List Piece
point_reply p = array (number_text p.y ∷ number_text p.x ∷ [])

-- the least point, then the greatest
abbrev pub bounds_reply : Bounds → List Piece
bounds_reply b = array (point_reply b.min ∷ point_reply b.max ∷ [])

-- names and values in turn
abbrev pub fields_reply : List Field → List Piece
fields_reply fields = array (flat_map (λ f. bulk f.0 ∷ value_reply f.1 ∷ []) fields)

-- an object as it is shown: its text, the centre of its box, or its bounds
abbrev pub object_reply : Shown → Object → List Piece
object_reply shown.Points o = point_reply (centre (box_of o.shape))
object_reply shown.Bounds o = bounds_reply (box_of o.shape)
object_reply shown.Objects o = bulk o.text
object_reply shown.Ids o = bulk o.id
object_reply shown.Count o = []

-- the fields of an item, where there are some and they are wanted
abbrev pub fields_part : Bool → List Field → List (List Piece)
fields_part bare [] = []
fields_part bare (f ∷ fields) = if bare then [] else fields_reply (f ∷ fields) ∷ []

abbrev pub is_ids : Shown → Bool
is_ids shown.Ids = true
is_ids s = false

-- an item of a search: the id alone, or the id, what is shown, and the fields
abbrev pub item_reply : Query → Object → List Piece
item_reply q o = if is_ids q.shown then bulk o.id else array (bulk o.id ∷ object_reply q.shown o ∷ fields_part q.bare o.fields)

-- a search: the number of all matches, or the cursor and the items of the page
abbrev pub page_reply : Query → List Object → List Piece
page_reply q found = counted q.shown
  where
    counted : Shown → List Piece
    counted shown.Count = number (length found)
    counted s = array (number (page_cursor q found) ∷ array (map (item_reply q) (page_items q found)) ∷ [])

-- the bounds of all objects of a key
abbrev pub bounds_of_key : List Object → List Piece
bounds_of_key [] = no_list
bounds_of_key (o ∷ objects) = bounds_reply (box_of_points (flat_map (λ p. all_vertices p.shape) (o ∷ objects)))

-- how many objects a key has, and how many positions these have
abbrev pub stats_of_key : List Object → List Piece
stats_of_key [] = no_list
stats_of_key (o ∷ objects) = array (bulk (codes "num_objects") ∷ number (length (o ∷ objects)) ∷ bulk (codes "num_points") ∷
    number (sum_by (λ p. positions p.shape) (o ∷ objects)) ∷ [])

-- seconds until a deadline, rounded up; -1 without one, and -2 without an object
abbrev pub seconds_left : ℕ → Option ℕ → ℤ
seconds_left now None = neg_ℤ (pos 1)
seconds_left now (Some d) = pos ((d - now) / 1000 + (if (d - now) % 1000 == 0 then 0 else 1))

abbrev pub no_object : ℤ
no_object = neg_ℤ (pos 2)

-- a channel: its name, its key, its words
abbrev pub channel_reply : Channel → List Piece
channel_reply c = array (bulk c.name ∷ bulk c.fence.key ∷ array (map bulk c.words) ∷ [])

-- each subscription confirmed by a reply of its own, with the count of those then held
abbrev pub confirmation : Bytes → Sub × ℕ → List Piece
confirmation called held = array (bulk called ∷ bulk held.0.word ∷ number held.1 ∷ [])

abbrev pub confirmations : Bytes → List Sub → List Sub → List (List Piece)
confirmations called held subs = map (confirmation called) (zip subs (counts_with held subs))
