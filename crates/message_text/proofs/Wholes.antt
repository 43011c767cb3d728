-- A payload is its parts in a row.
use Rattle.std.proofs.Common.{◌≡◌, List, [], ◌∷◌, ◌++◌, codes, append_assoc, append-nil, arith, refl, sym, ap, ◌∙◌, map, flat_map, decimal}
use Rattle.std.specs.Prelude.{ℕ, Option}
use Rattle.std.proofs.lemmas.Grind.{flat_map-append}
use Rattle.byte_text.specs.Names.{Bytes}
use Rattle.geo_text.specs.Texts.{with_commas, Shape}
use Rattle.byte_text.specs.JsonText.{quoted}
use Rattle.fence_model.specs.Messages.{detect_name, set_payload, roam_payload}
use Rattle.world_data.specs.Filters.{Field, value_json}
use Rattle.world_data.specs.declared.objects.Object.{Object}
use Rattle.world_data.specs.declared.channels.Detect.{Detect}
use Rattle.world_data.specs.declared.channels.Detect.TheVariants.{Inside, Outside, Enter, Exit, Cross, Near, Far}
use Rattle.message_text.specs.Parts.{detect_part, set_part, field_part, meters_of, more_fields, fields_part, object_part, roam_head, other_part}

-- members behind others, each behind a comma
abbrev tail : List Bytes → Bytes
tail members = flat_map (λ m. 44 ∷ m) members

with_tail : (m : Bytes) (members : List Bytes) → with_commas (m ∷ members) ≡ m ++ tail members
with_tail m [] = sym (append-nil m)
with_tail m (n ∷ members) = ap (λ (t : Bytes). m ++ 44 ∷ t) (with_tail n members)

abbrev member : Bytes → Bytes → Bytes
member called text = quoted called ++ 58 ∷ text

abbrev field_member : Field → Bytes
field_member f = member f.0 (value_json f.1)

abbrev fields_members : List Field → List Bytes
fields_members [] = []
fields_members (f ∷ fields) = member (codes "fields") (123 ∷ with_commas (map field_member (f ∷ fields)) ++ 125 ∷ []) ∷ []

-- the members of a set in front of its fields, and the others behind them
abbrev members : Bytes → Detect → Bytes → Bytes → Bytes → List Bytes → List Bytes
members hook d key id text others = member (codes "command") (quoted (codes "set")) ∷ member (codes "detect") (quoted (detect_name d)) ∷ member (codes "hook") (quoted hook)
    ∷ member (codes "key") (quoted key) ∷ member (codes "id") (quoted id) ∷ member (codes "object") text ∷ others

abbrev braced : List Bytes → Bytes
braced ms = 123 ∷ with_commas ms ++ 125 ∷ []

-- what stands before the fields, where the JSON strings are these
abbrev front : Detect → Bytes → Bytes → Bytes → Bytes → Bytes
front d hook key id text = detect_part d ++ hook ++ codes "," ++ (codes "\"key\":" ++ key ++ codes ",\"id\":" ++ id ++ codes ",\"object\":" ++ text)

-- the word of DETECT is a literal, whose JSON string computes
arranged : (d : Detect) (hook key id text others : Bytes)
    → 123 ∷ (member (codes "command") (quoted (codes "set")) ++ 44 ∷ (member (codes "detect") (quoted (detect_name d)) ++ 44 ∷ (member (codes "hook") hook ++ 44 ∷ (member (codes "key") key ++ 44 ∷ (member (codes "id") id ++ 44 ∷ (member (codes "object") text ++ others)))))) ++ 125 ∷ []
    ≡ front d hook key id text ++ (others ++ codes "}")
arranged Inside hook key id text others = grind (arith, append_assoc, append-nil)
arranged Outside hook key id text others = grind (arith, append_assoc, append-nil)
arranged Enter hook key id text others = grind (arith, append_assoc, append-nil)
arranged Exit hook key id text others = grind (arith, append_assoc, append-nil)
arranged Cross hook key id text others = grind (arith, append_assoc, append-nil)
arranged Near hook key id text others = grind (arith, append_assoc, append-nil)
arranged Far hook key id text others = grind (arith, append_assoc, append-nil)

set_is : (hook : Bytes) (d : Detect) (key id text : Bytes) (others : List Bytes) → braced (members hook d key id text others) ≡ front d (quoted hook) (quoted key) (quoted id) text ++ (tail others ++ codes "}")
set_is hook d key id text others = rw (with_tail (member (codes "object") text) others) (arranged d (quoted hook) (quoted key) (quoted id) text (tail others))

-- fields with commas between them
commas : (f : Field) (fields : List Field) → with_commas (map field_member (f ∷ fields)) ≡ field_part f ++ more_fields fields
commas f [] = grind (arith, append_assoc, append-nil)
commas f (g ∷ fields) = let rest = commas g fields in grind (arith, append_assoc, append-nil)

braced_fields : (first more : Bytes) → tail (member (codes "fields") (123 ∷ (first ++ more) ++ 125 ∷ []) ∷ []) ≡ codes ",\"fields\":{" ++ first ++ more ++ codes "}"
braced_fields first more = grind (arith, append_assoc, append-nil)

fields_are : (fields : List Field) → tail (fields_members fields) ≡ fields_part fields
fields_are [] = refl
fields_are (f ∷ fields) = ap (λ (t : Bytes). tail (member (codes "fields") (123 ∷ t ++ 125 ∷ []) ∷ [])) (commas f fields) ∙ braced_fields (field_part f) (more_fields fields)

abbrev object : Bytes → Bytes → Bytes → Shape → List Field → Option ℕ → Object
object key id text shape fields deadline = record { key = key; id = id; text = text; shape = shape; fields = fields; deadline = deadline }

unfolded : (hook : Bytes) (d : Detect) (key id text : Bytes) (shape : Shape) (fields : List Field) (deadline : Option ℕ)
    → set_payload hook d (object key id text shape fields deadline) ≡ braced (members hook d key id text (fields_members fields))
unfolded hook d key id text shape [] deadline = refl
unfolded hook d key id text shape (f ∷ fields) deadline = refl

pub set_whole : (hook : Bytes) (d : Detect) (o : Object) → set_payload hook d o ≡ set_part hook d o ++ (fields_part o.fields ++ codes "}")
set_whole hook d o = unfolded hook d o.key o.id o.text o.shape o.fields o.deadline ∙ set_is hook d o.key o.id o.text (fields_members o.fields)
    ∙ ap (λ (t : Bytes). set_part hook d o ++ (t ++ codes "}")) (fields_are o.fields)

-- the member of the other object
abbrev roam_name : Detect → Bytes
roam_name Far = codes "faraway"
roam_name d = codes "nearby"

abbrev other_member : Detect → Object → Object → Bytes
other_member d o t = member (roam_name d) (braced (member (codes "key") (quoted t.key) ∷ member (codes "id") (quoted t.id) ∷ member (codes "object") t.text ∷ member (codes "meters") (decimal (meters_of o t)) ∷ []))

unfolded_roam : (hook : Bytes) (d : Detect) (key id text : Bytes) (shape : Shape) (fields : List Field) (deadline : Option ℕ) (t : Object)
    → roam_payload hook (object key id text shape fields deadline) (t, d)
    ≡ braced (members hook d key id text (fields_members fields ++ other_member d (object key id text shape fields deadline) t ∷ []))
unfolded_roam hook d key id text shape [] deadline t = refl
unfolded_roam hook d key id text shape (f ∷ fields) deadline t = refl

pairs : (key id text meters : Bytes) → member (codes "key") key ++ 44 ∷ (member (codes "id") id ++ 44 ∷ (member (codes "object") text ++ 44 ∷ (member (codes "meters") meters)))
    ≡ (codes "\"key\":" ++ key ++ codes ",\"id\":" ++ id ++ codes ",\"object\":" ++ text) ++ codes ",\"meters\":" ++ meters
pairs key id text meters = grind (arith, append_assoc, append-nil)

braced_other : (d : Detect) (object meters : Bytes) → 44 ∷ member (roam_name d) (123 ∷ (object ++ codes ",\"meters\":" ++ meters) ++ 125 ∷ []) ≡ roam_head d ++ (codes "{" ++ object ++ codes ",\"meters\":" ++ meters ++ codes "}")
braced_other Inside object meters = grind (arith, append_assoc, append-nil)
braced_other Outside object meters = grind (arith, append_assoc, append-nil)
braced_other Enter object meters = grind (arith, append_assoc, append-nil)
braced_other Exit object meters = grind (arith, append_assoc, append-nil)
braced_other Cross object meters = grind (arith, append_assoc, append-nil)
braced_other Near object meters = grind (arith, append_assoc, append-nil)
braced_other Far object meters = grind (arith, append_assoc, append-nil)

other_is : (d : Detect) (o t : Object) → 44 ∷ other_member d o t ≡ roam_head d ++ other_part o t
other_is d o t = ap (λ (s : Bytes). 44 ∷ member (roam_name d) (123 ∷ s ++ 125 ∷ [])) (pairs (quoted t.key) (quoted t.id) t.text (decimal (meters_of o t)))
    ∙ braced_other d (object_part t) (decimal (meters_of o t))

pub roam_whole : (hook : Bytes) (o t : Object) (d : Detect)
    → roam_payload hook o (t, d) ≡ set_part hook d o ++ (fields_part o.fields ++ (roam_head d ++ (other_part o t ++ codes "}")))
roam_whole hook o t d =
    let split : tail (fields_members o.fields ++ other_member d o t ∷ []) ≡ fields_part o.fields ++ (roam_head d ++ other_part o t)
    = rw (flat_map-append (λ (m : Bytes). 44 ∷ m) (fields_members o.fields) (other_member d o t ∷ []), fields_are o.fields, append-nil (other_member d o t), other_is d o t) refl in
    unfolded_roam hook d o.key o.id o.text o.shape o.fields o.deadline t
    ∙ set_is hook d o.key o.id o.text (fields_members o.fields ++ other_member d o t ∷ [])
    ∙ ap (λ (s : Bytes). set_part hook d o ++ (s ++ codes "}")) split
    ∙ ap (λ (s : Bytes). set_part hook d o ++ s) (append_assoc (fields_part o.fields) (roam_head d ++ other_part o t) (codes "}")
    ∙ ap (λ (s : Bytes). fields_part o.fields ++ s) (append_assoc (roam_head d) (other_part o t) (codes "}")))
