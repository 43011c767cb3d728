-- How long the records of objects and of deletions are, so that they fit a request.
use Rattle.std.proofs.Common.{◌≡◌, ℕ, ◌+◌, ◌*◌, ◌≤◌, true, List, [], ◌∷◌, ◌++◌, length, refl, sym, ap, subst, arith, append_assoc, length-append}
use Rattle.std.specs.Prelude.{Option, Some, None, Ok, codes, nat_le}
use Rattle.std.specs.List.{list_all}
use Rattle.std.proofs.lemmas.Bool.{leb-true}
use Rattle.byte_text.specs.Names.{Bytes, is_name}
use Rattle.byte_text.specs.Requests.{IsRequest, max_word}
use Rattle.geo_text.specs.Texts.{shape_of}
use Rattle.ordered_lists.specs.Reading.{both_of}
use Rattle.world_data.specs.declared.values.Value.{Value}
use Rattle.world_data.specs.declared.values.Value.TheVariants.{Whole, Word}
use Rattle.world_data.specs.Filters.{Field, value_text}
use Rattle.world_data.specs.Records.{deadline_words, record_reader, is_kept, is_kept_value, is_kept_field, is_kept_deadline}
use Rattle.world_data.specs.declared.objects.Object.{Object}
use Rattle.world_data.specs.declared.worlds.Change.TheVariants.{Put, Del, Drop, Flush, DelChan}
use Rattle.log_record.specs.Words.{IsRecorded}
use Rattle.log_record.specs.RecordsRead.{record_read, fits_of}
use Rattle.log_record.specs.RecordsBack.{object_back, del_back, drop_back, flush_back, delchan_back}
use Rattle.cmd_words.specs.ShortRequests.{total_short, each_short}
use Rattle.cmd_words.specs.SmallWords.{IsSmall, AreSmall, small, small_name, small_decimal, small_signed, small_append, total_append, short_append, short_back}
use Rattle.record_reader.specs.Recorded.{ChangesAreRecorded, most_fields, most_fields_fit, one_more_does_not}
use Rattle.record_reader.proofs.Parts.{name_kept, value_kept}
use Rattle.record_reader.proofs.FieldLists.{texts}
use Rattle.record_reader.proofs.PutParts.{key_kept, id_kept, fields_kept, deadline_kept, all_kept}

small_value : (v : Value) → is_kept_value v ≡ true → IsSmall (value_text v)
small_value (Whole z) kept = small_signed z (fits_of z kept)
small_value (Word w) kept = small_name w kept

small_texts : (fields : List Field) → list_all is_kept_field fields ≡ true → AreSmall (texts fields)
small_texts [] kept = tt
small_texts (f ∷ fields) kept =
    let parts = both_of (is_kept_field f) (list_all is_kept_field fields) kept in
    (small (codes "FIELD") refl, (small_name f.0 (name_kept f parts.0), (small_value f.1 (value_kept f parts.0), small_texts fields parts.1)))

texts_count : (fields : List Field) → length (texts fields) ≡ 3 * length fields
texts_count [] = refl
texts_count (f ∷ fields) = let ih = texts_count fields in omega (arith, ih)

small_deadline : (d : Option ℕ) → is_kept_deadline d ≡ true → AreSmall (deadline_words d)
small_deadline None kept = tt
small_deadline (Some n) kept = let l : n ≤ 18446744073709551615 = leb-true n 18446744073709551615 kept in (small (codes "AT") refl, (small_decimal n (omega (arith, l)), tt))

deadline_count : (d : Option ℕ) → length (deadline_words d) ≤ 2
deadline_count None = omega arith
deadline_count (Some n) = omega arith

-- words of at most 255 bytes, and one that may be longer
pub behind_small : (front : List Bytes) (text : Bytes) → AreSmall front → length front ≤ 4095 → length text ≤ max_word → IsRequest (front ++ text ∷ [])
behind_small front text s few short =
    let n = length-append front (text ∷ []) in
    let t = total_append front (text ∷ []) in
    let m = total_short front s in
    record {
      some = omega (arith, n);
      fits = record {
        few = omega (arith, n, few);
        short = short_append front (text ∷ []) (each_short front s) (short, tt);
        small = omega (arith, t, m, few, short);
      };
    }

all_small : (words : List Bytes) → AreSmall words → nat_le 1 (length words) ≡ true → nat_le (length words) 4096 ≡ true → IsRequest words
all_small words s some few =
    let low = leb-true 1 (length words) some in
    let high = leb-true (length words) 4096 few in
    let m = total_short words s in
    record { some = omega (arith, low); fits = record { few = high; short = each_short words s; small = omega (arith, m, high) } }

-- the words of a put before its text
abbrev front : Object → List Bytes
front o = codes "SET" ∷ o.key ∷ o.id ∷ (texts o.fields ++ deadline_words o.deadline) ++ codes "OBJECT" ∷ []

fronted : (o : Object) → record_reader (Put o) ≡ front o ++ o.text ∷ []
fronted o = ap (λ l. codes "SET" ∷ o.key ∷ o.id ∷ l) (sym (append_assoc (texts o.fields ++ deadline_words o.deadline) (codes "OBJECT" ∷ []) (o.text ∷ [])))

front_count : (o : Object) → length (front o) ≡ 4 + 3 * length o.fields + length (deadline_words o.deadline)
front_count o =
    let a = length-append (texts o.fields ++ deadline_words o.deadline) (codes "OBJECT" ∷ []) in
    let b = length-append (texts o.fields) (deadline_words o.deadline) in
    let c = texts_count o.fields in
    omega (arith, a, b, c)

front_small : (o : Object) → is_kept (Put o) ≡ true → AreSmall (front o)
front_small o kept = (
  small (codes "SET") refl,
  (
    small_name o.key (key_kept o kept),
    (
      small_name o.id (id_kept o kept),
      small_append (texts o.fields ++ deadline_words o.deadline) (codes "OBJECT" ∷ [])
          (small_append (texts o.fields) (deadline_words o.deadline) (small_texts o.fields (fields_kept o kept).kept) (small_deadline o.deadline (deadline_kept o kept)))
          (small (codes "OBJECT") refl, tt),
    ),
  ),
)

put_recorded : (o : Object) → is_kept (Put o) ≡ true → shape_of o.text ≡ Ok o.shape → length o.fields ≤ most_fields → length o.text ≤ max_word → IsRecorded (Put o)
put_recorded o kept shape few short =
    let n = front_count o in
    let d = deadline_count o.deadline in
    record {
      read_back = object_back o kept shape;
      fits = subst IsRequest (sym (fronted o)) (behind_small (front o) o.text (front_small o kept) (omega (arith, n, d, few, most_fields_fit)) short);
    }

put_within : (o : Object) → IsRequest (record_reader (Put o)) → (length o.fields ≤ most_fields) × (length o.text ≤ max_word)
put_within o request =
    let fits = (subst IsRequest (fronted o) request).fits in
    let n = front_count o in
    let m = length-append (front o) (o.text ∷ []) in
    let few = fits.few in
    (omega (arith, n, m, few, one_more_does_not), (short_back (front o) (o.text ∷ []) fits.short).0)

with_deadline : (o : Object) (deadline : Option ℕ) → IsRecorded (Put o) → is_kept_deadline deadline ≡ true → IsRecorded (Put (record o { deadline = deadline }))
with_deadline o deadline recorded also =
    let read = record_read (record_reader (Put o)) (Put o) recorded.read_back in
    let within = put_within o recorded.fits in
    let d : Object = record o { deadline = deadline } in
    put_recorded d (all_kept d (key_kept o read.1) (id_kept o read.1) (fields_kept o read.1) also) read.2 within.0 within.1

pub changes_are_recorded : ChangesAreRecorded
changes_are_recorded = record {
  puts = put_recorded;
  deadlines = with_deadline;
  dels = λ key id kept.
      let parts = both_of (is_name key) (is_name id) kept in
      record {
        read_back = del_back key id kept;
        fits = all_small (record_reader (Del key id)) (small (codes "DEL") refl, (small_name key parts.0, (small_name id parts.1, tt))) refl refl;
      };
  drops = λ key kept. record {
    read_back = drop_back key kept;
    fits = all_small (record_reader (Drop key)) (small (codes "DROP") refl, (small_name key kept, tt)) refl refl;
  };
  most = λ o recorded. (put_within o recorded.fits).0;
  flush = record { read_back = flush_back; fits = all_small (record_reader Flush) (small (codes "FLUSHDB") refl, tt) refl refl };
  channel_ends = λ name kept. record {
    read_back = delchan_back name kept;
    fits = all_small (record_reader (DelChan name)) (small (codes "DELCHAN") refl, (small_name name kept, tt)) refl refl;
  };
}
