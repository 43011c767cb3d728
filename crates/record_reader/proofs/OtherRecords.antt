-- The records of deletions and of channels' ends, and words that are no record.
use Rattle.std.proofs.Common.{◌≡◌, Bool, true, false, List, [], ◌∷◌, refl, sym, ap, subst, ◌∙◌}
use Rattle.std.specs.Prelude.{Option, Some, None, Result, Ok, Err, codes, ◌&&◌, if◌then◌else◌}
use Rattle.std.proofs.lemmas.Bool.{and_from}
use Rattle.byte_text.specs.Names.{Bytes, is_name, same}
use Rattle.byte_text.specs.ByteOrder.{same_equal}
use Rattle.world_data.specs.Records.{record_reader, is_kept}
use Rattle.world_data.specs.declared.worlds.Change.{Change}
use Rattle.world_data.specs.declared.worlds.Change.TheVariants.{Del, Drop, Flush, DelChan}
use Rattle.log_record.specs.Words.{change_of_words, if_recorded, same_words, put_of, del_of, drop_of, flush_of, setchan_of, delchan_of}
use Rattle.log_record.specs.RecordsRead.{first, second}
use Rattle.log_record.specs.RecordsBack.{del_back, drop_back, flush_back, delchan_back}
use Rattle.record_reader.specs.declared.faults.ReadFault.{ReadFault}
use Rattle.record_reader.specs.declared.faults.ReadFault.TheVariants.{NotRecord, Memory}
use Rattle.record_reader.specs.Reading.{BeginsNot, Reads, name_words, IsName, IsEnd, IsChangeOf}
use Rattle.record_reader.proofs.LeftWords.{rests_same}

-- a change that is not kept has no record
not_kept : (words : List Bytes) (c : Change) → (is_kept c ≡ true → ⊥) → if_recorded words (Some c) ≡ None
not_kept words c none = by (same_words (record_reader c) words) (is_kept c) refl
  where
    by : (a b : Bool) → is_kept c ≡ b → (if a && b then Some c else None) ≡ None
    by true true e = absurd (none e)
    by true false e = refl
    by false b e = refl

-- DEL

no_del : (old : List Bytes) → ((key id : Bytes) → IsName key → IsName id → old ≡ key ∷ id ∷ [] → ⊥) → change_of_words (codes "DEL" ∷ old) ≡ None
unfolding change_of_words
no_del [] none = refl
no_del (key ∷ []) none = refl
no_del (key ∷ id ∷ []) none = not_kept (codes "DEL" ∷ key ∷ id ∷ []) (Del key id) (λ is. none key id (first (is_name key) (is_name id) is) (second (is_name key) (is_name id) is) refl)
no_del (key ∷ id ∷ w ∷ more) none = refl

module _ (old : List Bytes) where
  pub del_key_refused : (left : List Bytes) (why : ReadFault) → Reads name_words IsName old left (Err why) → IsChangeOf (codes "DEL" ∷ old) (Err why)
  del_key_refused left NotRecord none = no_del old (λ key id is also e. none key (id ∷ []) is e)
  del_key_refused left Memory none = tt

  module _ (key : Bytes) (one : List Bytes) (key_read : Reads name_words IsName old one (Ok key)) where
    pub del_id_refused : (left : List Bytes) (why : ReadFault) → Reads name_words IsName one left (Err why) → IsChangeOf (codes "DEL" ∷ old) (Err why)
    del_id_refused left NotRecord none = no_del old (λ k id is also e. none id [] also (rests_same key k one (id ∷ []) (sym key_read.0 ∙ e)))
    del_id_refused left Memory none = tt

    module _ (id : Bytes) (two : List Bytes) (id_read : Reads name_words IsName one two (Ok id)) where
      pub del_longer : (why : ReadFault) → IsEnd two (Err why) → IsChangeOf (codes "DEL" ∷ old) (Err why)
      del_longer NotRecord none = no_del old (λ k i is also e.
          none (rests_same id i two [] (sym id_read.0 ∙ rests_same key k one (i ∷ []) (sym key_read.0 ∙ e))))
      del_longer Memory none = absurd none

      pub del_found : two ≡ [] → IsChangeOf (codes "DEL" ∷ old) (Ok (Del key id))
      del_found end =
          let kept : is_kept (Del key id) ≡ true = and_from (is_name key) (is_name id) key_read.1 id_read.1 in
          let words : old ≡ key ∷ id ∷ [] = key_read.0 ∙ ap (λ l. key ∷ l) (id_read.0 ∙ ap (λ l. id ∷ l) end) in
          subst (λ l. change_of_words (codes "DEL" ∷ l) ≡ Some (Del key id)) (sym words) (del_back key id kept)

-- DROP and DELCHAN

no_drop : (old : List Bytes) → ((key : Bytes) → IsName key → old ≡ key ∷ [] → ⊥) → change_of_words (codes "DROP" ∷ old) ≡ None
unfolding change_of_words
no_drop [] none = refl
no_drop (key ∷ []) none = not_kept (codes "DROP" ∷ key ∷ []) (Drop key) (λ is. none key is refl)
no_drop (key ∷ w ∷ more) none = refl

no_delchan : (old : List Bytes) → ((name : Bytes) → IsName name → old ≡ name ∷ [] → ⊥) → change_of_words (codes "DELCHAN" ∷ old) ≡ None
unfolding change_of_words
no_delchan [] none = refl
no_delchan (name ∷ []) none = not_kept (codes "DELCHAN" ∷ name ∷ []) (DelChan name) (λ is. none name is refl)
no_delchan (name ∷ w ∷ more) none = refl

module _ (called : Bytes) (make : Bytes → Change) (none_is : (old : List Bytes) → ((name : Bytes) → IsName name → old ≡ name ∷ [] → ⊥) → change_of_words (called ∷ old) ≡ None)
    (back : (name : Bytes) → IsName name → change_of_words (called ∷ name ∷ []) ≡ Some (make name)) (old : List Bytes) where
  name_refused : (left : List Bytes) (why : ReadFault) → Reads name_words IsName old left (Err why) → IsChangeOf (called ∷ old) (Err why)
  name_refused left NotRecord none = none_is old (λ name is e. none name [] is e)
  name_refused left Memory none = tt

  module _ (name : Bytes) (one : List Bytes) (read : Reads name_words IsName old one (Ok name)) where
    longer : (why : ReadFault) → IsEnd one (Err why) → IsChangeOf (called ∷ old) (Err why)
    longer NotRecord none = none_is old (λ n is e. none (rests_same name n one [] (sym read.0 ∙ e)))
    longer Memory none = absurd none

    found : one ≡ [] → IsChangeOf (called ∷ old) (Ok (make name))
    found end = subst (λ l. change_of_words (called ∷ l) ≡ Some (make name)) (sym (read.0 ∙ ap (λ l. name ∷ l) end)) (back name read.1)

pub drop_refused : (old left : List Bytes) (why : ReadFault) → Reads name_words IsName old left (Err why) → IsChangeOf (codes "DROP" ∷ old) (Err why)
drop_refused = name_refused (codes "DROP") Drop no_drop drop_back

pub drop_longer : (old : List Bytes) (key : Bytes) (one : List Bytes) → Reads name_words IsName old one (Ok key) → (why : ReadFault) → IsEnd one (Err why) → IsChangeOf (codes "DROP" ∷ old) (Err why)
drop_longer = longer (codes "DROP") Drop no_drop drop_back

pub drop_found : (old : List Bytes) (key : Bytes) (one : List Bytes) → Reads name_words IsName old one (Ok key) → one ≡ [] → IsChangeOf (codes "DROP" ∷ old) (Ok (Drop key))
drop_found = found (codes "DROP") Drop no_drop drop_back

pub delchan_refused : (old left : List Bytes) (why : ReadFault) → Reads name_words IsName old left (Err why) → IsChangeOf (codes "DELCHAN" ∷ old) (Err why)
delchan_refused = name_refused (codes "DELCHAN") DelChan no_delchan delchan_back

pub delchan_longer : (old : List Bytes) (name : Bytes) (one : List Bytes) → Reads name_words IsName old one (Ok name) → (why : ReadFault) → IsEnd one (Err why) → IsChangeOf (codes "DELCHAN" ∷ old) (Err why)
delchan_longer = longer (codes "DELCHAN") DelChan no_delchan delchan_back

pub delchan_found : (old : List Bytes) (name : Bytes) (one : List Bytes) → Reads name_words IsName old one (Ok name) → one ≡ [] → IsChangeOf (codes "DELCHAN" ∷ old) (Ok (DelChan name))
delchan_found = found (codes "DELCHAN") DelChan no_delchan delchan_back

-- FLUSHDB

pub flush_longer : (old : List Bytes) (why : ReadFault) → IsEnd old (Err why) → IsChangeOf (codes "FLUSHDB" ∷ old) (Err why)
unfolding change_of_words
flush_longer [] NotRecord none = absurd (none refl)
flush_longer (w ∷ old) NotRecord none = refl
flush_longer old Memory none = absurd none

pub flush_found : (old : List Bytes) → old ≡ [] → IsChangeOf (codes "FLUSHDB" ∷ old) (Ok Flush)
flush_found old end = subst (λ l. change_of_words (codes "FLUSHDB" ∷ l) ≡ Some Flush) (sym end) flush_back

-- words that begin with the name of no change

pub differs : (called w : Bytes) (old : List Bytes) → BeginsNot called (w ∷ old) → same w called ≡ false
differs called w old b = by (same w called) refl
  where
    by : (t : Bool) → same w called ≡ t → same w called ≡ false
    by true e = absurd (b.other old (ap (λ v. v ∷ old) (same_equal w called e)))
    by false e = e

none_of_six : (words : List Bytes) (a b c d e f : Bool) (p q r s t u : Option Change) → a ≡ false → b ≡ false → c ≡ false → d ≡ false → e ≡ false → f ≡ false
    → if_recorded words (if a then p else if b then q else if c then r else if d then s else if e then t else if f then u else None) ≡ None
none_of_six words a b c d e f p q r s t u ea eb ec ed ee ef = rw (ea, eb, ec, ed, ee, ef) refl

pub no_name : (words : List Bytes) → BeginsNot (codes "SET") words → BeginsNot (codes "DEL") words → BeginsNot (codes "DROP") words
    → BeginsNot (codes "FLUSHDB") words → BeginsNot (codes "SETCHAN") words → BeginsNot (codes "DELCHAN") words → change_of_words words ≡ None
unfolding change_of_words
no_name [] set del drop flush setchan delchan = refl
no_name (w ∷ old) set del drop flush setchan delchan =
    none_of_six (w ∷ old) (same w (codes "SET")) (same w (codes "DEL")) (same w (codes "DROP")) (same w (codes "FLUSHDB")) (same w (codes "SETCHAN")) (same w (codes "DELCHAN"))
    (put_of old) (del_of old) (drop_of old) (flush_of old) (setchan_of old) (delchan_of old)
    (differs (codes "SET") w old set) (differs (codes "DEL") w old del) (differs (codes "DROP") w old drop)
    (differs (codes "FLUSHDB") w old flush) (differs (codes "SETCHAN") w old setchan) (differs (codes "DELCHAN") w old delchan)

-- the answer to a reader whose words are all those of the record
pub read_from : (words begun : List Bytes) (r : Result Change ReadFault) → words ≡ begun → IsChangeOf begun r → IsChangeOf words r
read_from words begun r e is = subst (λ w. IsChangeOf w r) (sym e) is

-- the same, where the reader looked for one name after the other and has read none
pub no_name_left : (words a b c d e f : List Bytes) → a ≡ words → (b ≡ a) × BeginsNot (codes "SET") a → (c ≡ b) × BeginsNot (codes "DEL") b
    → (d ≡ c) × BeginsNot (codes "DROP") c → (e ≡ d) × BeginsNot (codes "FLUSHDB") d → (f ≡ e) × BeginsNot (codes "SETCHAN") e
    → BeginsNot (codes "DELCHAN") f → change_of_words words ≡ None
no_name_left words a b c d e f first_ one two three four five six =
    let to_b : b ≡ words = one.0 ∙ first_ in
    let to_c : c ≡ words = two.0 ∙ to_b in
    let to_d : d ≡ words = three.0 ∙ to_c in
    let to_e : e ≡ words = four.0 ∙ to_d in
    let to_f : f ≡ words = five.0 ∙ to_e in
    no_name words (subst (BeginsNot (codes "SET")) first_ one.1) (subst (BeginsNot (codes "DEL")) to_b two.1) (subst (BeginsNot (codes "DROP")) to_c three.1)
    (subst (BeginsNot (codes "FLUSHDB")) to_d four.1) (subst (BeginsNot (codes "SETCHAN")) to_e five.1) (subst (BeginsNot (codes "DELCHAN")) to_f six)
