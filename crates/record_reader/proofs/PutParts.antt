-- A put is read part by part.
use Rattle.std.proofs.Common.{◌≡◌, ℕ, ◌≤◌, Bool, true, false, List, [], ◌∷◌, ◌++◌, refl, sym, ap, subst, ◌∙◌, append_assoc, arith}
use Rattle.std.specs.Prelude.{Option, Some, None, IfNone, Result, Ok, Err, codes, decimal, ◌&&◌}
use Rattle.std.specs.List.{list_all}
use Rattle.std.proofs.lemmas.Bool.{and_from, le-leb, leb-true}
use Rattle.byte_text.specs.Names.{Bytes, is_name, same}
use Rattle.byte_text.specs.ByteOrder.{same_refl}
use Rattle.geo_text.specs.Texts.{Shape, shape_of}
use Rattle.geo_text.specs.declared.faults.GeoFault.{GeoFault}
use Rattle.geojson_model.specs.Answers.{Fails, Gives}
use Rattle.geojson_model.specs.declared.faults.ShapeFault.{ShapeFault}
use Rattle.geojson_model.specs.declared.faults.ShapeFault.TheVariants.{Refused}
use Rattle.world_data.specs.Filters.{Field, are_fields}
use Rattle.world_data.specs.Records.{deadline_words, record_reader, is_kept, is_kept_field, is_kept_deadline}
use Rattle.world_data.specs.declared.objects.Object.{Object}
use Rattle.world_data.specs.declared.worlds.Change.{Change}
use Rattle.world_data.specs.declared.worlds.Change.TheVariants.{Put, Del, Drop, Flush, SetChan, DelChan}
use Rattle.log_record.specs.Words.{change_of_words, HasShape}
use Rattle.log_record.specs.RecordsRead.{first, second, record_read}
use Rattle.log_record.specs.RecordsBack.{object_back}
use Rattle.record_reader.specs.declared.faults.ReadFault.{ReadFault}
use Rattle.record_reader.specs.declared.faults.ReadFault.TheVariants.{NotRecord, Memory}
use Rattle.record_reader.specs.Reading.{BeginsNot, Reads, name_words, IsName, moment_words, IsMoment, AreKept, ReadsFields, ReadsDeadline, IsNotOne, ReadsText, IsPlaceOf, IsChangeOf, one_word, text_words}
use Rattle.record_reader.proofs.LeftWords.{heads_same, rests_same}
use Rattle.record_reader.proofs.FieldLists.{texts, fields_same}

-- words that are written out

pub words_differ : (v w : Bytes) → same v w ≡ false → v ≡ w → ⊥
words_differ v w differs e = let both : true ≡ false = sym (same_refl v) ∙ ap (λ u. same v u) e ∙ differs in cc both

begins_other : (called w : Bytes) (rest : List Bytes) → same w called ≡ false → BeginsNot called (w ∷ rest)
begins_other called w rest differs = record { other = λ behind e. words_differ w called differs (heads_same w called rest behind e) }

-- the deadline

pub no_deadline : (old new : List Bytes) → new ≡ old → BeginsNot (codes "AT") old → ReadsDeadline old new (Ok None)
no_deadline old new same ends = (sym same, refl, subst (BeginsNot (codes "AT")) (sym same) ends)

module _ (old mid : List Bytes) (begins : old ≡ codes "AT" ∷ mid) where
  pub moment_refused : (new : List Bytes) (why : ReadFault) → Reads moment_words IsMoment mid new (Err why) → ReadsDeadline old new (Err why)
  moment_refused new NotRecord none = by
    where
      by : (deadline : Option ℕ) (behind : List Bytes) → is_kept_deadline deadline ≡ true → IfNone deadline (BeginsNot (codes "AT") behind)
          → old ≡ deadline_words deadline ++ behind → ⊥
      by None behind kept ends e = ends.other mid (sym e ∙ begins)
      by (Some n) behind kept ends e =
          let small : n ≤ 18446744073709551615 = leb-true n 18446744073709551615 kept in
          none n behind (omega (arith, small)) (rests_same (codes "AT") (codes "AT") mid (decimal n ∷ behind) (sym begins ∙ e))
  moment_refused new Memory none = tt

  pub moment_found : (n : ℕ) (new : List Bytes) → Reads moment_words IsMoment mid new (Ok n) → ReadsDeadline old new (Ok (Some n))
  moment_found n new read = let lt = read.1 in (begins ∙ ap (λ l. codes "AT" ∷ l) read.0, le-leb n 18446744073709551615 (omega (arith, lt)), tt)

-- the deadline and what is behind it are the same in every reading
deadline_same : (d e : Option ℕ) (x y : List Bytes) → IfNone d (BeginsNot (codes "AT") x) → BeginsNot (codes "AT") y → deadline_words d ++ x ≡ deadline_words e ++ y → x ≡ y
deadline_same None None x y p q f = f
deadline_same None (Some n) x y p q f = absurd (p.other (decimal n ∷ y) f)
deadline_same (Some n) None x y p q f = absurd (q.other (decimal n ∷ x) (sym f))
deadline_same (Some n) (Some m) x y p q f = rests_same (decimal n) (decimal m) x y (rests_same (codes "AT") (codes "AT") (decimal n ∷ x) (decimal m ∷ y) f)

-- the text

pub no_text : (old : List Bytes) → BeginsNot (codes "OBJECT") old → ReadsText old (Err NotRecord)
no_text old ends = λ t shape e. ends.other (one_word t.0) e

module _ (old mid : List Bytes) (begins : old ≡ codes "OBJECT" ∷ mid) where
  pub last_refused : IsNotOne mid → ReadsText old (Err NotRecord)
  last_refused none = λ t shape e. none t.0 (rests_same (codes "OBJECT") (codes "OBJECT") mid (one_word t.0) (sym begins ∙ e))

  pub text_read : (w : Bytes) → mid ≡ one_word w → (r : Result (Bytes × Shape) ReadFault) → IsPlaceOf w r → ReadsText old r
  text_read w is (Ok t) place = (begins ∙ ap (λ l. codes "OBJECT" ∷ l) (is ∙ ap one_word (sym place.0)), ap shape_of place.0 ∙ place.1)
  text_read w is (Err NotRecord) none = λ t shape e.
      let same_text : w ≡ t.0 = heads_same w t.0 [] [] (sym is ∙ rests_same (codes "OBJECT") (codes "OBJECT") mid (one_word t.0) (sym begins ∙ e)) in
      none t.1 (ap shape_of same_text ∙ shape)
  text_read w is (Err Memory) place = tt

-- the whole record

abbrev behind_fields : Object → List Bytes
behind_fields o = deadline_words o.deadline ++ text_words o.text

abbrev behind_id : Object → List Bytes
behind_id o = texts o.fields ++ behind_fields o

said : (o : Object) → record_reader (Put o) ≡ codes "SET" ∷ o.key ∷ o.id ∷ behind_id o
said o = ap (λ l. codes "SET" ∷ o.key ∷ o.id ∷ l) (append_assoc (texts o.fields) (deadline_words o.deadline) (text_words o.text))

record IsPut (o : Object) (behind : List Bytes) : Type 0 where
  kept : is_kept (Put o) ≡ true
  shape : shape_of o.text ≡ Ok o.shape
  words : behind ≡ o.key ∷ o.id ∷ behind_id o

-- where no put has this record, no change has
no_put : (old : List Bytes) → ((o : Object) → IsPut o old → ⊥) → change_of_words (codes "SET" ∷ old) ≡ None
no_put old none = by (change_of_words (codes "SET" ∷ old)) refl
  where
    other : (called : Bytes) (behind : List Bytes) → same called (codes "SET") ≡ false → called ∷ behind ≡ codes "SET" ∷ old → ⊥
    other called behind differs e = words_differ called (codes "SET") differs (heads_same called (codes "SET") behind old e)

    refutes : (c : Change) → record_reader c ≡ codes "SET" ∷ old → is_kept c ≡ true → HasShape c → ⊥
    refutes (Put o) is kept shape = none o (record {
      kept = kept;
      shape = shape;
      words = rests_same (codes "SET") (codes "SET") old (o.key ∷ o.id ∷ behind_id o) (sym is ∙ said o);
    })
    refutes (Del key id) is kept shape = other (codes "DEL") (key ∷ id ∷ []) refl is
    refutes (Drop key) is kept shape = other (codes "DROP") (key ∷ []) refl is
    refutes Flush is kept shape = other (codes "FLUSHDB") [] refl is
    refutes (SetChan c) is kept shape = other (codes "SETCHAN") (c.name ∷ deadline_words c.deadline ++ c.words) refl is
    refutes (DelChan name) is kept shape = other (codes "DELCHAN") (name ∷ []) refl is

    by : (x : Option Change) → change_of_words (codes "SET" ∷ old) ≡ x → change_of_words (codes "SET" ∷ old) ≡ None
    by None e = e
    by (Some c) e = let r = record_read (codes "SET" ∷ old) c e in absurd (refutes c r.0 r.1 r.2)

module _ (o : Object) (kept : is_kept (Put o) ≡ true) where
  abbrev names : Bool
  names = is_name o.key && is_name o.id

  abbrev ordered : Bool
  ordered = names && are_fields o.fields

  abbrev fielded : Bool
  fielded = ordered && list_all is_kept_field o.fields

  is_fielded : fielded ≡ true
  is_fielded = first fielded (is_kept_deadline o.deadline) kept

  is_ordered : ordered ≡ true
  is_ordered = first ordered (list_all is_kept_field o.fields) is_fielded

  pub key_kept : IsName o.key
  key_kept = first (is_name o.key) (is_name o.id) (first names (are_fields o.fields) is_ordered)

  pub id_kept : IsName o.id
  id_kept = second (is_name o.key) (is_name o.id) (first names (are_fields o.fields) is_ordered)

  pub fields_kept : AreKept o.fields
  fields_kept = record { ordered = second names (are_fields o.fields) is_ordered; kept = second ordered (list_all is_kept_field o.fields) is_fielded }

  pub deadline_kept : is_kept_deadline o.deadline ≡ true
  deadline_kept = second fielded (is_kept_deadline o.deadline) kept

pub all_kept : (o : Object) → IsName o.key → IsName o.id → AreKept o.fields → is_kept_deadline o.deadline ≡ true → is_kept (Put o) ≡ true
all_kept o key id fields deadline =
    and_from (is_name o.key && is_name o.id && are_fields o.fields && list_all is_kept_field o.fields) (is_kept_deadline o.deadline)
    (and_from (is_name o.key && is_name o.id && are_fields o.fields) (list_all is_kept_field o.fields)
    (and_from (is_name o.key && is_name o.id) (are_fields o.fields) (and_from (is_name o.key) (is_name o.id) key id) fields.ordered) fields.kept) deadline

-- what is behind the fields begins with no field, and what is behind the deadline with none
no_field_behind : (d : Option ℕ) (text : Bytes) → BeginsNot (codes "FIELD") (deadline_words d ++ text_words text)
no_field_behind None text = begins_other (codes "FIELD") (codes "OBJECT") (one_word text) refl
no_field_behind (Some n) text = begins_other (codes "FIELD") (codes "AT") (decimal n ∷ text_words text) refl

no_deadline_behind : (text : Bytes) → BeginsNot (codes "AT") (text_words text)
no_deadline_behind text = begins_other (codes "AT") (codes "OBJECT") (one_word text) refl

none_behind : (d : Option ℕ) (text : Bytes) → IfNone d (BeginsNot (codes "AT") (text_words text))
none_behind None text = no_deadline_behind text
none_behind (Some n) text = tt

-- a part that is refused, behind those that were read
module _ (old : List Bytes) where
  pub key_refused : (left : List Bytes) (why : ReadFault) → Reads name_words IsName old left (Err why) → IsChangeOf (codes "SET" ∷ old) (Err why)
  key_refused left NotRecord none = no_put old (λ o put. none o.key (o.id ∷ behind_id o) (key_kept o put.kept) put.words)
  key_refused left Memory none = tt

  module _ (key : Bytes) (one : List Bytes) (key_read : Reads name_words IsName old one (Ok key)) where
    behind_key : (o : Object) → IsPut o old → one ≡ o.id ∷ behind_id o
    behind_key o put = rests_same key o.key one (o.id ∷ behind_id o) (sym key_read.0 ∙ put.words)

    pub id_refused : (left : List Bytes) (why : ReadFault) → Reads name_words IsName one left (Err why) → IsChangeOf (codes "SET" ∷ old) (Err why)
    id_refused left NotRecord none = no_put old (λ o put. none o.id (behind_id o) (id_kept o put.kept) (behind_key o put))
    id_refused left Memory none = tt

    module _ (id : Bytes) (two : List Bytes) (id_read : Reads name_words IsName one two (Ok id)) where
      behind_names : (o : Object) → IsPut o old → two ≡ behind_id o
      behind_names o put = rests_same id o.id two (behind_id o) (sym id_read.0 ∙ behind_key o put)

      pub fields_refused : (left : List Bytes) (why : ReadFault) → ReadsFields two left (Err why) → IsChangeOf (codes "SET" ∷ old) (Err why)
      fields_refused left NotRecord none = no_put old (λ o put.
          none o.fields (behind_fields o) (fields_kept o put.kept) (no_field_behind o.deadline o.text) (behind_names o put))
      fields_refused left Memory none = tt

      module _ (fields : List Field) (three : List Bytes) (fields_read : ReadsFields two three (Ok fields)) where
        behind_them : (o : Object) → IsPut o old → three ≡ behind_fields o
        behind_them o put = fields_same fields o.fields three (behind_fields o) fields_read.1 (fields_kept o put.kept) fields_read.2
            (no_field_behind o.deadline o.text) (sym fields_read.0 ∙ behind_names o put)

        pub deadline_refused : (left : List Bytes) (why : ReadFault) → ReadsDeadline three left (Err why) → IsChangeOf (codes "SET" ∷ old) (Err why)
        deadline_refused left NotRecord none = no_put old (λ o put.
            none o.deadline (text_words o.text) (deadline_kept o put.kept) (none_behind o.deadline o.text) (behind_them o put))
        deadline_refused left Memory none = tt

        module _ (deadline : Option ℕ) (four : List Bytes) (deadline_read : ReadsDeadline three four (Ok deadline)) where
          pub text_refused : (why : ReadFault) → ReadsText four (Err why) → IsChangeOf (codes "SET" ∷ old) (Err why)
          text_refused NotRecord none = no_put old (λ o put.
              none (o.text, o.shape) put.shape (deadline_same deadline o.deadline four (text_words o.text) deadline_read.2 (no_deadline_behind o.text)
              (sym deadline_read.0 ∙ behind_them o put)))
          text_refused Memory none = tt

          -- all parts were read
          pub put_found : (t : Bytes × Shape) → ReadsText four (Ok t)
              → IsChangeOf (codes "SET" ∷ old) (Ok (Put (record { key = key; id = id; text = t.0; shape = t.1; fields = fields; deadline = deadline })))
          put_found t text_is =
              let o : Object = record { key = key; id = id; text = t.0; shape = t.1; fields = fields; deadline = deadline } in
              let kept : is_kept (Put o) ≡ true = all_kept o key_read.1 id_read.1 fields_read.1 deadline_read.1 in
              let behind : four ≡ text_words t.0 = text_is.0 in
              let words : codes "SET" ∷ old ≡ record_reader (Put o) =
              ap (λ l. codes "SET" ∷ l) (key_read.0 ∙ ap (λ l. key ∷ l) (id_read.0 ∙ ap (λ l. id ∷ l) (fields_read.0
              ∙ ap (λ l. texts fields ++ l) (deadline_read.0 ∙ ap (λ l. deadline_words deadline ++ l) behind)))) ∙ sym (said o) in
              subst (λ w. change_of_words w ≡ Some (Put o)) (sym words) (object_back o kept text_is.1)

-- a text that is refused has no shape
pub no_shape : (text : Bytes) (why : ShapeFault) (fault : GeoFault) → why ≡ Refused fault → Gives (λ s. s) (Err why) (shape_of text)
    → (shape : Shape) → shape_of text ≡ Ok shape → ⊥
no_shape text why fault is gives shape f =
    let e : shape_of text ≡ Err fault = subst (λ (x : ShapeFault). Fails x (shape_of text)) is gives in
    by (shape_of text) e f
  where
    by : (r : Result Shape GeoFault) → r ≡ Err fault → r ≡ Ok shape → ⊥
    by (Ok s) e f = cc e
    by (Err g) e f = cc f
