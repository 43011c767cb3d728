-- The shape of a text, by how it was read.
use Rattle.std.proofs.Common.{◌≡◌, ℕ, Bool, true, false, List, ◌++◌, append_assoc, refl, sym, ap, ◌∙◌, subst}
use Rattle.std.specs.Prelude.{Some, None, Result, Ok, Err, OnOk, if◌then◌else◌}
use Rattle.std.specs.Str.{IsUtf8, is_utf8}
use Rattle.std.proofs.lemmas.Str.{IsUtf8-from_is_utf8, is_utf8-from_IsUtf8}
use Rattle.serde_json.specs.Data.{Data}
use Rattle.serde_json.specs.Read.{read}
use Rattle.geo_text.specs.declared.faults.GeoFault.{GeoFault}
use Rattle.geo_text.specs.declared.faults.GeoFault.TheVariants.{NotJson}
use Rattle.geojson_model.specs.declared.faults.ShapeFault.{ShapeFault}
use Rattle.geojson_model.specs.Answers.{Gives}
use Rattle.geo_text.specs.Geometries as geo
use Rattle.geo_text.specs.Texts.{Shape, stored_shape, shape_of_json, walked, shape_of}

pub walked_json : (text : List ℕ) (d : Data) (r : Result Shape ShapeFault) → IsUtf8 text → read text ≡ Some d → Gives (λ s. s) r (geo.shape d) → Gives (λ s. s) r (walked text)
walked_json text d r utf8 is given =
    let same : walked text ≡ geo.shape d = rw (is_utf8-from_IsUtf8 text utf8, is) refl in
    subst (Gives (λ s. s) r) (sym same) given

pub no_json : (text : List ℕ) → (IsUtf8 text → read text ≡ None) → walked text ≡ Err NotJson
no_json text none = by (is_utf8 text) refl
  where
    by : (t : Bool) → is_utf8 text ≡ t → ◌≡◌ {A = Result Shape GeoFault} (if t then shape_of_json (read text) else Err NotJson) (Err NotJson)
    by true e = ap shape_of_json (none (IsUtf8-from_is_utf8 text e))
    by false e = refl

pub stored_is : (text : List ℕ) (s : Shape) → stored_shape text ≡ Some s → shape_of text ≡ Ok s
unfolding shape_of
stored_is text s e = rw e refl

pub walked_is : (text : List ℕ) → stored_shape text ≡ None → shape_of text ≡ walked text
unfolding shape_of
walked_is text e = rw e refl

-- three pieces behind a text, the last of which may have failed
pub three_pieces : {E : Type 0} (r : Result (Unit {0}) E) (old h p t one two new : List ℕ) → one ≡ old ++ h → two ≡ one ++ p → OnOk r (new ≡ two ++ t) → OnOk r (new ≡ old ++ ((h ++ p) ++ t))
three_pieces (Ok x) old h p t one two new a b c =
    c ∙ ap (λ (xs : List ℕ). xs ++ t) (b ∙ ap (λ (xs : List ℕ). xs ++ p) a ∙ append_assoc old h p) ∙ append_assoc old (h ++ p) t
three_pieces (Err e) old h p t one two new a b c = tt

-- an answer that the stored text's shape is
pub answers_stored : (text : List ℕ) (s : Shape) (r : Result Shape ShapeFault) → stored_shape text ≡ Some s → Gives (λ x. x) r (Ok s) → Gives (λ x. x) r (shape_of text)
answers_stored text s r is given = subst (Gives (λ x. x) r) (sym (stored_is text s is)) given

pub answers_walked : (text : List ℕ) (r : Result Shape ShapeFault) → stored_shape text ≡ None → Gives (λ x. x) r (walked text) → Gives (λ x. x) r (shape_of text)
answers_walked text r is given = subst (Gives (λ x. x) r) (sym (walked_is text is)) given
