-- Fields are written one after another.
use Rattle.std.proofs.Common.{◌≡◌, ℕ, zero, suc, ◌+◌, ◌<◌, List, [], ◌∷◌, ◌++◌, length, drop, refl, arith, ap, ◌∙◌, subst, add-one, append_assoc, sym}
use Rattle.std.specs.Prelude.{Option, Some, IfSome, slice_get, codes}
use Rattle.byte_text.specs.Names.{Bytes}
use Rattle.byte_text.specs.ListLaws.{item_at}
use Rattle.world_data.specs.Filters.{Field}
use Rattle.message_text.specs.Parts.{field_part, fields_part, more_fields}

step : (fields : List Field) (i : ℕ) (f : Field) → slice_get fields i ≡ Some f → more_fields (drop i fields) ≡ 44 ∷ (field_part f ++ more_fields (drop (suc i) fields))
step [] i f is = absurd (cc)
step (g ∷ fields) zero f is = let e : g ≡ f = cc in rw e refl
step (g ∷ fields) (suc i) f is = step fields i f is

-- what is still to come behind the fields up to a place
abbrev pub rest_of : List Field → ℕ → Bytes
rest_of fields i = more_fields (drop i fields) ++ codes "}"

-- a field is written behind a comma, and the rest is as it was
pub written : (fields : List Field) (i : ℕ) (before after whole : Bytes) → i < length fields
    → IfSome (slice_get fields i) (λ f. after ≡ before ++ 44 ∷ field_part f) → before ++ rest_of fields i ≡ whole → after ++ rest_of fields (i + 1) ≡ whole
written fields i before after whole lt field w =
    let f = (item_at fields i lt).0 in
    let at = (item_at fields i lt).1 in
    let made : after ≡ before ++ 44 ∷ field_part f = subst (λ (o : Option Field). IfSome o (λ f. after ≡ before ++ 44 ∷ field_part f)) at field in
    let rest : rest_of fields i ≡ (44 ∷ field_part f) ++ rest_of fields (suc i) = ap (λ (t : Bytes). t ++ codes "}") (step fields i f at) ∙ append_assoc (44 ∷ field_part f) (more_fields (drop (suc i) fields)) (codes "}") in
    rw (made, add-one, append_assoc before (44 ∷ field_part f) (rest_of fields (suc i)), ← rest) w

-- the first field is written, and the rest is to come
pub begun : (fields : List Field) (before between after : Bytes) → 0 < length fields → between ≡ before ++ codes ",\"fields\":{"
    → IfSome (slice_get fields 0) (λ f. after ≡ between ++ field_part f) → after ++ rest_of fields 1 ≡ before ++ fields_part fields
begun [] before between after lt head field = absurd (omega arith)
begun (f ∷ fields) before between after lt head field =
    let opening = codes ",\"fields\":{" in
    let rest = rest_of (f ∷ fields) 1 in
    rw (field, head) (append_assoc (before ++ opening) (field_part f) rest ∙ append_assoc before opening (field_part f ++ rest)
    ∙ ap (λ (t : Bytes). before ++ (opening ++ t)) (sym (append_assoc (field_part f) (more_fields fields) (codes "}"))))
