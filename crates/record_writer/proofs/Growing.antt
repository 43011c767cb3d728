-- A text grows by one part at a time.
use Rattle.std.proofs.Common.{◌≡◌, ◌∙◌, ◌+◌, ◌<◌, Bool, true, ◌&&◌, ℕ, List, [], ◌∷◌, ◌++◌, length, drop, refl, sym, ap, subst, append_assoc, flat_map}
use Rattle.std.specs.Prelude.{Option, slice_get, IfSome}
use Rattle.std.specs.List.{list_all}
use Rattle.byte_text.specs.Names.{Bytes}
use Rattle.byte_text.specs.Lines.{bulk_text}
use Rattle.byte_text.specs.ListLaws.{drop_next, one_more, item_at}
use Rattle.world_data.specs.Filters.{Field}
use Rattle.world_data.specs.declared.values.Value.{Value}
use Rattle.world_data.specs.Records.{field_words, is_kept_field}
use Rattle.record_writer.specs.Texts.{words_text, field_text}

-- the field at a place was written
pub one_field : (fs : List Field) (i : ℕ) (name : Bytes) (value : Value) (into grown whole : Bytes) → i < length fs → IfSome (slice_get fs i) (λ f. name ≡ f.0) → IfSome (slice_get fs i) (λ f. value ≡ f.1)
    → grown ≡ into ++ field_text (name, value) → into ++ flat_map field_text (drop i fs) ≡ whole → grown ++ flat_map field_text (drop (i + 1) fs) ≡ whole
one_field fs i name value into grown whole lt named valued is before =
    let s = item_at fs i lt in
    let name_is : name ≡ s.0.0 = subst (λ (o : Option Field). IfSome o (λ f. name ≡ f.0)) s.1 named in
    let value_is : value ≡ s.0.1 = subst (λ (o : Option Field). IfSome o (λ f. value ≡ f.1)) s.1 valued in
    one_more field_text fs i s.0 into grown whole s.1 (is ∙ ap (λ (m : Bytes). into ++ field_text (m, value)) name_is ∙ ap (λ (v : Value). into ++ field_text (s.0.0, v)) value_is) before

-- and it is one that is kept
pub one_kept : (fs : List Field) (i : ℕ) (name : Bytes) (value : Value) → i < length fs → IfSome (slice_get fs i) (λ f. name ≡ f.0) → IfSome (slice_get fs i) (λ f. value ≡ f.1)
    → is_kept_field (name, value) ≡ true → list_all is_kept_field (drop i fs) ≡ list_all is_kept_field fs → list_all is_kept_field (drop (i + 1) fs) ≡ list_all is_kept_field fs
one_kept fs i name value lt named valued is before =
    let s = item_at fs i lt in
    let name_is : name ≡ s.0.0 = subst (λ (o : Option Field). IfSome o (λ f. name ≡ f.0)) s.1 named in
    let value_is : value ≡ s.0.1 = subst (λ (o : Option Field). IfSome o (λ f. value ≡ f.1)) s.1 valued in
    let one : is_kept_field s.0 ≡ true = ap (λ (m : Bytes). is_kept_field (m, s.0.1)) (sym name_is) ∙ ap (λ (v : Value). is_kept_field (name, v)) (sym value_is) ∙ is in
    ap (λ (b : Bool). b && list_all is_kept_field (drop (i + 1) fs)) (sym one) ∙ ap (list_all is_kept_field) (sym (drop_next fs i s.0 s.1)) ∙ before

pub words-append : (us vs : List Bytes) → words_text (us ++ vs) ≡ words_text us ++ words_text vs
words-append [] vs = refl
words-append (u ∷ us) vs = ap (λ (l : Bytes). bulk_text u ++ l) (words-append us vs) ∙ sym (append_assoc (bulk_text u) (words_text us) (words_text vs))

-- the texts of fields are the text of their words
pub fields_are : (fs : List Field) → flat_map field_text fs ≡ words_text (flat_map field_words fs)
fields_are [] = refl
fields_are (f ∷ fs) = ap (λ (l : Bytes). field_text f ++ l) (fields_are fs) ∙ sym (words-append (field_words f) (flat_map field_words fs))
