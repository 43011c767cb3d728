-- The parts of a payload, in the order in which they are written.
use Rattle.std.specs.Prelude.{ℕ, List, [], ◌∷◌, ◌++◌, flat_map, codes, decimal}
use Rattle.byte_text.specs.Names.{Bytes}
use Rattle.byte_text.specs.JsonText.{quoted}
use Rattle.planar_geom.specs.Points.{dist2, floor_root}
use Rattle.world_data.specs.Filters.{Field, value_json}
use Rattle.fence_model.specs.Fences.{place_of}
use Rattle.fence_model.specs.Messages.{detect_name}
use Rattle.world_data.specs.declared.objects.Object.{Object}
use Rattle.world_data.specs.declared.channels.Detect.{Detect}
use Rattle.world_data.specs.declared.channels.Detect.TheVariants.{Far}

-- a key and an id
abbrev pub names_part : Bytes → Bytes → Bytes
names_part key id = codes "\"key\":" ++ quoted key ++ codes ",\"id\":" ++ quoted id

-- key, id and text of an object
abbrev pub object_part : Object → Bytes
object_part o = names_part o.key o.id ++ codes ",\"object\":" ++ o.text

-- what stands before a channel's name
abbrev pub detect_part : Detect → Bytes
detect_part d = codes "{\"command\":\"set\",\"detect\":\"" ++ detect_name d ++ codes "\",\"hook\":"

-- all of a set in front of its fields
abbrev pub set_part : Bytes → Detect → Object → Bytes
set_part hook d o = detect_part d ++ quoted hook ++ codes "," ++ object_part o

-- a field's name and value
abbrev pub field_part : Field → Bytes
field_part f = quoted f.0 ++ codes ":" ++ value_json f.1

-- fields behind others, each behind a comma
abbrev pub more_fields : List Field → Bytes
more_fields fields = flat_map (λ f. 44 ∷ field_part f) fields

-- the fields, where there are some
abbrev pub fields_part : List Field → Bytes
fields_part [] = []
fields_part (f ∷ fields) = codes ",\"fields\":{" ++ field_part f ++ more_fields fields ++ codes "}"

-- the whole meters between the centres of the boxes of two objects
abbrev pub meters_of : Object → Object → ℕ
meters_of o other = floor_root (dist2 (place_of o) (place_of other))

-- the other object of a roaming pair, with the distance of the two
abbrev pub other_part : Object → Object → Bytes
other_part o other = codes "{" ++ object_part other ++ codes ",\"meters\":" ++ decimal (meters_of o other) ++ codes "}"

-- what stands before the other object of a pair
abbrev pub roam_head : Detect → Bytes
roam_head Far = codes ",\"faraway\":"
roam_head d = codes ",\"nearby\":"
