-- Messages: their payloads, what a change raises on all channels, and who is sent it.
use Rattle.std.specs.Prelude.{Bool, false, ◌&&◌, List, [], ◌∷◌, ◌++◌, filter, flat_map, map, Option, Some, None, is_none, if◌then◌else◌, codes}
use Rattle.std.specs.Prelude.{decimal}
use Rattle.byte_text.specs.Names.{Bytes, same}
use Rattle.byte_text.specs.JsonText.{quoted}
use Rattle.planar_geom.specs.Points.{dist2, floor_root}
use Rattle.geo_text.specs.Texts.{with_commas}
use Rattle.world_data.specs.Worlds.{object_at, objects_of}
use Rattle.world_data.specs.Filters.{Field, value_json}
use Rattle.fence_model.specs.Fences.{raised_by_put, raised_by_del, raised_by_drop, near_pairs, roams_over, place_of}
use Rattle.fence_model.specs.Writes.{Write}
use Rattle.world_data.specs.declared.objects.Object.{Object}
use Rattle.world_data.specs.declared.worlds.World.{World}
use Rattle.world_data.specs.declared.worlds.Change.{Change}
use Rattle.world_data.specs.declared.worlds.Change.TheVariants.{Put, Del, Drop, Flush, SetChan, DelChan}
use Rattle.world_data.specs.declared.channels.Channel.{Channel}
use Rattle.world_data.specs.declared.channels.Detect.{Detect}
use Rattle.world_data.specs.declared.channels.Detect.TheVariants.{Inside, Outside, Enter, Exit, Cross, Near, Far}

-- payloads: members of JSON in order, without spaces

abbrev member : Bytes → Bytes → Bytes
member called text = quoted called ++ 58 ∷ text

abbrev text_member : Bytes → Bytes → Bytes
text_member called text = member called (quoted text)

abbrev braced : List Bytes → Bytes
braced members = 123 ∷ with_commas members ++ 125 ∷ []

abbrev pub detect_name : Detect → Bytes
detect_name Inside = codes "inside"
detect_name Outside = codes "outside"
detect_name Enter = codes "enter"
detect_name Exit = codes "exit"
detect_name Cross = codes "cross"
detect_name Near = codes "roam"
detect_name Far = codes "roam"

abbrev field_member : Field → Bytes
field_member f = member f.0 (value_json f.1)

abbrev fields_members : List Field → List Bytes
fields_members [] = []
fields_members (f ∷ fields) = member (codes "fields") (braced (map field_member (f ∷ fields))) ∷ []

abbrev set_members : Bytes → Detect → Object → List Bytes
set_members hook d o = text_member (codes "command") (codes "set") ∷ text_member (codes "detect") (detect_name d) ∷ text_member (codes "hook") hook
    ∷ text_member (codes "key") o.key ∷ text_member (codes "id") o.id ∷ member (codes "object") o.text ∷ fields_members o.fields

abbrev pub set_payload : Bytes → Detect → Object → Bytes
set_payload hook d o = braced (set_members hook d o)

abbrev pub del_payload : Bytes → Bytes → Bytes → Bytes
del_payload hook key id = braced
    (text_member (codes "command") (codes "del") ∷ text_member (codes "hook") hook ∷ text_member (codes "key") key ∷ text_member (codes "id") id ∷ [])

abbrev pub drop_payload : Bytes → Bytes → Bytes
drop_payload hook key = braced (text_member (codes "command") (codes "drop") ∷ text_member (codes "hook") hook ∷ text_member (codes "key") key ∷ [])

abbrev roam_name : Detect → Bytes
roam_name Far = codes "faraway"
roam_name d = codes "nearby"

abbrev pub roam_payload : Bytes → Object → Object × Detect → Bytes
roam_payload hook o pair = braced (set_members hook pair.1 o ++ member (roam_name pair.1)
    (braced (text_member (codes "key") pair.0.key ∷ text_member (codes "id") pair.0.id ∷ member (codes "object") pair.0.text
    ∷ member (codes "meters") (decimal (floor_root (dist2 (place_of o) (place_of pair.0)))) ∷ [])) ∷ [])

-- messages

abbrev pub Message : Type 0
Message = Bytes × Bytes  -- the channel's name, the payload

abbrev payload_if : Bool → Bytes → List Bytes
payload_if test payload = if test then payload ∷ [] else []

-- what a put raises on a channel: the detections of its area, or the objects that it comes near to or goes away from
abbrev pub put_payloads : World → Object → Channel → List Bytes
put_payloads w o c = let old = object_at w o.key o.id in by_watch old (roams_over c.fence.watch)
  where
    by_watch : Option Object → Option Bytes → List Bytes
    by_watch old None = map (λ d. set_payload c.name d o) (raised_by_put c.fence old o)
    by_watch old (Some key) = if c.fence.wanted.set then map (roam_payload c.name o) (near_pairs c.fence old o (objects_of w key)) else []

-- the payloads that a announced change of its key raises on a channel, in the world before it
abbrev pub payloads : World → Change → Channel → List Bytes
payloads w (Put o) c = put_payloads w o c
payloads w (Del key id) c = payload_if (is_none (roams_over c.fence.watch) && raised_by_del c.fence (object_at w key id)) (del_payload c.name key id)
payloads w (Drop key) c = payload_if (raised_by_drop c.fence) (drop_payload c.name key)
payloads w Flush c = []
payloads w (SetChan d) c = []
payloads w (DelChan name) c = []

abbrev pub key_of : Change → Option Bytes
key_of (Put o) = Some o.key
key_of (Del key id) = Some key
key_of (Drop key) = Some key
key_of Flush = None
key_of (SetChan c) = None
key_of (DelChan name) = None

abbrev pub watches : Option Bytes → Channel → Bool
watches None c = false
watches (Some key) c = same c.fence.key key

-- the messages of a announced change: for every channel of its key by name, its payloads
abbrev pub announced_messages : World → Change → List Message
announced_messages w change = flat_map (λ c. map (λ p. (c.name, p)) (payloads w change c)) (filter (watches (key_of change)) w.channels)

-- the messages of a write: none of a silent one
unfoldable pub messages : World → Write → List Message
messages w write = if write.announced then announced_messages w write.change else []
