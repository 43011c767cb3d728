-- What is kept, and has its shape, is read back from its record.
use Rattle.std.proofs.Common.{arith, ◌≡◌, ℕ, ◌≤◌, ◌&&◌, Bool, true, false, not, List, [], ◌∷◌, ◌++◌, Option, Some, None, Ok, codes, flat_map}
use Rattle.std.proofs.Common.{refl, ap, ◌∙◌, append_assoc}
use Rattle.std.specs.List.{list_all}
use Rattle.std.proofs.lemmas.Bool.{leb-true}
use Rattle.byte_text.specs.Names.{Bytes, is_name}
use Rattle.byte_text.specs.NumberLaws.{digits_back}
use Rattle.geo_text.specs.Texts.{shape_of}
use Rattle.ordered_lists.specs.Lists.{ascends}
use Rattle.world_data.specs.declared.values.Value.{Value}
use Rattle.world_data.specs.Filters.{Field, field_before, are_fields, is_absent, value_in, value_text}
use Rattle.world_data.specs.Records.{deadline_words, field_words, record_reader, is_kept_value, is_kept_field, is_kept_deadline, is_kept}
use Rattle.world_data.specs.declared.objects.Object.{Object}
use Rattle.world_data.specs.declared.worlds.Change.{Change}
use Rattle.world_data.specs.declared.worlds.Change.TheVariants.{Put, Del, Drop, Flush, SetChan, DelChan}
use Rattle.planar_geom.specs.declared.shapes.Area.{Area}
use Rattle.world_data.specs.declared.channels.Channel.{Channel}
use Rattle.world_model.specs.declared.search_commands.AreaWords.{AreaWords}
use Rattle.world_model.specs.declared.search_commands.AreaWords.TheVariants.{Given}
use Rattle.world_model.specs.declared.commands.Command.{Command}
use Rattle.world_model.specs.declared.commands.Command.TheVariants as command
use Rattle.world_model.specs.declared.channel_commands.ChannelCommand.TheVariants as of_channel
use Rattle.log_record.specs.Words.{until, settled, setchan_until, fields_front, deadline_front, put_with, put_text, put_of, could_be}
use Rattle.log_record.specs.Words.{same_words, if_recorded, change_of_words, IsNormal}
use Rattle.log_record.specs.RecordsRead.{first, second, same_are_words}
use Rattle.log_record.specs.ValuesBack.{value_back}

abbrev is_some_field : Field → Bool
is_some_field f = not (is_absent f)

refused : (b : Bool) → not b ≡ true → b ≡ false
refused true e = absurd (cc e)
refused false e = refl

-- what the text of a field's value writes
pub field_back : (f : Field) → is_kept_field f ≡ true → not (is_absent f) ≡ true → value_in (value_text f.1) ≡ f.1
field_back f kept some = value_back f.1 (second (is_name f.0) (is_kept_value f.1) kept) (refused (is_absent f) some)

-- fields at the front of words that begin with no field
fields_back : (fields : List Field) (rest : List Bytes) → fields_front rest ≡ ([], rest) → list_all is_kept_field fields ≡ true
    → list_all is_some_field fields ≡ true → fields_front (flat_map field_words fields ++ rest) ≡ (fields, rest)
fields_back [] rest none kept some = none
fields_back (f ∷ fields) rest none kept some =
    let behind = fields_back fields rest none (second (is_kept_field f) (list_all is_kept_field fields) kept)
    (second (is_some_field f) (list_all is_some_field fields) some) in
    let value = field_back f (first (is_kept_field f) (list_all is_kept_field fields) kept)
    (first (is_some_field f) (list_all is_some_field fields) some) in
    ap (λ (r : List Field × List Bytes). ((f.0, value_in (value_text f.1)) ∷ r.0, r.1)) behind
    ∙ ap (λ (v : Value). ((f.0, v) ∷ fields, rest)) value

abbrev last_words : Bytes → List Bytes
last_words text = codes "OBJECT" ∷ text ∷ []

no_field : (deadline : Option ℕ) (text : Bytes)
    → fields_front (deadline_words deadline ++ last_words text) ≡ ([], deadline_words deadline ++ last_words text)
no_field None text = refl
no_field (Some d) text = refl

-- a deadline at the front of words
pub moment_back : (d : ℕ) (rest : List Bytes) → is_kept_deadline (Some d) ≡ true → deadline_front (deadline_words (Some d) ++ rest) ≡ (Some d, rest)
moment_back d rest kept =
    let small : d ≤ 18446744073709551615 = leb-true d 18446744073709551615 kept in
    ap (λ (n : ℕ). (Some n, rest)) (digits_back d (omega (arith, small)))

-- and perhaps none, where the words begin with none
deadline_back : (deadline : Option ℕ) (rest : List Bytes) → deadline_front rest ≡ (None, rest) → is_kept_deadline deadline ≡ true
    → deadline_front (deadline_words deadline ++ rest) ≡ (deadline, rest)
deadline_back None rest none kept = none
deadline_back (Some d) rest none kept = moment_back d rest kept

put_back : (o : Object) → list_all is_kept_field o.fields ≡ true → list_all is_some_field o.fields ≡ true → is_kept_deadline o.deadline ≡ true
    → shape_of o.text ≡ Ok o.shape → could_be (record_reader (Put o)) ≡ Some (Put o)
put_back o fields some deadline shape =
    let rest = deadline_words o.deadline ++ last_words o.text in
    ap (λ (l : List Bytes). put_of (o.key ∷ o.id ∷ l)) (append_assoc (flat_map field_words o.fields) (deadline_words o.deadline) (last_words o.text))
    ∙ ap (λ (r : List Field × List Bytes). let d = deadline_front r.1 in put_text o.key o.id r.0 d.0 d.1)
    (fields_back o.fields rest (no_field o.deadline o.text) fields some)
    ∙ ap (λ (d : Option ℕ × List Bytes). put_text o.key o.id o.fields d.0 d.1) (deadline_back o.deadline (last_words o.text) refl deadline)
    ∙ ap (put_with o.key o.id o.fields o.deadline o.text) shape

recorded_back : (words : List Bytes) (c : Change) → record_reader c ≡ words → is_kept c ≡ true → if_recorded words (Some c) ≡ Some c
recorded_back words c is kept =
    let same : same_words (record_reader c) words ≡ true = ap (λ v. same_words v words) is ∙ same_are_words words in
    rw (same, kept) refl

kept_put : (o : Object) → is_kept (Put o) ≡ true
    → (list_all is_kept_field o.fields ≡ true) × (list_all is_some_field o.fields ≡ true) × (is_kept_deadline o.deadline ≡ true)
kept_put o kept =
    let names = is_name o.key && is_name o.id in
    let four = names && are_fields o.fields && list_all is_kept_field o.fields in
    let three = names && are_fields o.fields in
    let fields = first four (is_kept_deadline o.deadline) kept in
    let are = second names (are_fields o.fields) (first three (list_all is_kept_field o.fields) fields) in (
      second three (list_all is_kept_field o.fields) fields,
      second (ascends field_before o.fields) (list_all is_some_field o.fields) are,
      second four (is_kept_deadline o.deadline) kept,
    )

pub object_back : (o : Object) → is_kept (Put o) ≡ true → shape_of o.text ≡ Ok o.shape → change_of_words (record_reader (Put o)) ≡ Some (Put o)
unfolding change_of_words
object_back o kept shape =
    let parts = kept_put o kept in
    ap (if_recorded (record_reader (Put o))) (put_back o parts.0 parts.1 parts.2 shape) ∙ recorded_back (record_reader (Put o)) (Put o) refl kept

pub del_back : (key id : Bytes) → is_kept (Del key id) ≡ true → change_of_words (record_reader (Del key id)) ≡ Some (Del key id)
unfolding change_of_words
del_back key id kept = recorded_back (record_reader (Del key id)) (Del key id) refl kept

pub drop_back : (key : Bytes) → is_kept (Drop key) ≡ true → change_of_words (record_reader (Drop key)) ≡ Some (Drop key)
unfolding change_of_words
drop_back key kept = recorded_back (record_reader (Drop key)) (Drop key) refl kept

pub flush_back : change_of_words (record_reader Flush) ≡ Some Flush
unfolding change_of_words
flush_back = recorded_back (record_reader Flush) Flush refl refl

pub delchan_back : (name : Bytes) → is_kept (DelChan name) ≡ true → change_of_words (record_reader (DelChan name)) ≡ Some (DelChan name)
unfolding change_of_words
delchan_back name kept = recorded_back (record_reader (DelChan name)) (DelChan name) refl kept

-- a channel whose normal words spell it is read back, whatever its deadline
setting_back : (deadline : Option ℕ) (c : Channel) (from : Option AreaWords) → let d = until deadline c in is_kept (SetChan d) ≡ true
    → settled deadline (Some (command.Channel (of_channel.Setchan c from None))) ≡ Some (SetChan d) → IsNormal c from
    → change_of_words (record_reader (SetChan d)) ≡ Some (SetChan d)
unfolding change_of_words
setting_back deadline c from kept stands normal =
    let d = until deadline c in
    let words = record_reader (SetChan d) in
    let front = deadline_back deadline c.words normal.undated (second (is_name c.name) (is_kept_deadline deadline) kept) in
    ap (λ (behind : Option ℕ × List Bytes). if_recorded words (setchan_until c.name behind)) front
    ∙ ap (λ (o : Option Command). if_recorded words (settled deadline o)) normal.spelled
    ∙ ap (if_recorded words) stands
    ∙ recorded_back words (SetChan d) refl kept

pub channel_back : (deadline : Option ℕ) (c : Channel) (a : Area) → is_kept (SetChan (until deadline c)) ≡ true → IsNormal c (Some (Given a))
    → change_of_words (record_reader (SetChan (until deadline c))) ≡ Some (SetChan (until deadline c))
channel_back deadline c a kept normal = setting_back deadline c (Some (Given a)) kept refl normal

pub near_back : (deadline : Option ℕ) (c : Channel) → is_kept (SetChan (until deadline c)) ≡ true → IsNormal c None
    → change_of_words (record_reader (SetChan (until deadline c))) ≡ Some (SetChan (until deadline c))
near_back deadline c kept normal = setting_back deadline c None kept refl normal
