-- What a replay stands for after the next bytes, and where it refuses them.
use Rattle.std.proofs.Common.{◌≡◌, ℕ, ◌+◌, ◌-◌, ◌≤◌, ◌<◌, List, [], ◌∷◌, ◌++◌, length, take, drop, flat_map, Option, Some, None, refl, sym, ap, subst, ◌∙◌, arith, append_assoc, append-nil, length-append}
use Rattle.std.proofs.lemmas.List.{length-take, length-drop, take_all, take-append-drop}
use Rattle.std.proofs.Math.Seq.{take-add}
use Rattle.byte_text.specs.Names.{Bytes}
use Rattle.byte_text.specs.Requests.{IsRequest, request_text}
use Rattle.byte_text.specs.Streams.{found, begun, broken, request}
use Rattle.byte_text.specs.declared.faults.RespFault.{RespFault}
use Rattle.ordered_lists.specs.Reading.{each-append}
use Rattle.world_data.specs.Records.{record_writer}
use Rattle.world_data.specs.Worlds.{after, empty_world}
use Rattle.world_data.specs.declared.worlds.Change.{Change}
use Rattle.world_data.specs.declared.worlds.World.{World}
use Rattle.log_record.specs.Versions.{IsRecordedIn, change_of_version}
use Rattle.log_record.specs.VersionLaws.{version_read}
use Rattle.log_record.specs.Folding.{folded}
use Rattle.log_record.specs.EventWriteLaws.{folded-append}
use Rattle.log_record.specs.Batches.{records_text}
use Rattle.log_record.specs.RecordsRead.{record_read}
use Rattle.log_record.specs.RecordsFound.{is_recorded}
use Rattle.world_recovery.specs.Recorded.{record_fault, changes_in, world_in}
use Rattle.world_recovery.specs.Replayed.{Stands, IsNoRecord}
use Rattle.world_recovery.proofs.Reading.{nothing_begun, ends_there, words_refused, bytes_refused, cut_off, all_whole}

-- no batch
pub stands_first : (v : ℕ) → Stands v empty_world (Some []) 0 0 [] []
stands_first v = record {
  changes = [];
  beginning = [];
  text = refl;
  recorded = tt;
  goes_on = nothing_begun;
  waits = refl;
  taken_is = refl;
  place_is = refl;
  world_is = refl;
}

module _ (v : ℕ) (world : World) (held : Bytes) (taken place : ℕ) (batches : List Bytes) (part : Bytes) (stands : Stands v world (Some held) taken place batches part) where
  some_is : (a b : Bytes) → Some a ≡ Some b → a ≡ b
  some_is a b e = cc e

  held_is : stands.beginning ≡ held
  held_is = some_is stands.beginning held (sym stands.waits)

  text_is : part ≡ records_text stands.changes ++ held
  text_is = stands.text ∙ ap (λ (l : Bytes). records_text stands.changes ++ l) held_is

  pub goes_on : request held ≡ begun
  goes_on = subst (λ (l : Bytes). request l ≡ begun) held_is stands.goes_on

  -- more bytes of the same record
  pub stands_on : (bytes : Bytes) (waiting : Option Bytes) (end : ℕ) → request (held ++ bytes) ≡ begun → waiting ≡ Some (held ++ bytes) → end ≡ taken + length bytes
      → Stands v world waiting end place batches (part ++ bytes)
  stands_on bytes waiting end is waits counted = record {
    changes = stands.changes;
    beginning = held ++ bytes;
    text = ap (λ (l : Bytes). l ++ bytes) text_is ∙ append_assoc (records_text stands.changes) held bytes;
    recorded = stands.recorded;
    goes_on = is;
    waits = waits;
    taken_is = omega (arith, counted, stands.taken_is, length-append part bytes);
    place_is = stands.place_is;
    world_is = stands.world_is;
  }

  -- one change more
  with_one : (changes : List Change) (c : Change) → records_text (changes ++ c ∷ []) ≡ records_text changes ++ record_writer c
  with_one [] c = append-nil (record_writer c)
  with_one (d ∷ changes) c = ap (λ (l : Bytes). record_writer d ++ l) (with_one changes c) ∙ sym (append_assoc (record_writer d) (records_text changes) (record_writer c))

  more_text : (bytes : Bytes) (words : List Bytes) (n : ℕ) (c : Change) → request_text words ≡ record_writer c → held ++ take n bytes ≡ request_text words
      → part ++ take n bytes ≡ records_text (stands.changes ++ c ∷ [])
  more_text bytes words n c same ends =
      ap (λ (l : Bytes). l ++ take n bytes) text_is ∙ append_assoc (records_text stands.changes) held (take n bytes)
      ∙ ap (λ (l : Bytes). records_text stands.changes ++ l) (ends ∙ same) ∙ sym (with_one stands.changes c)

  pub stands_behind : (bytes : Bytes) (words : List Bytes) (n end : ℕ) (c : Change) (w : World) → IsRequest words → request (held ++ bytes) ≡ found words (drop n bytes) → n ≤ length bytes
      → change_of_version v words ≡ Some c → w ≡ after world c → end ≡ taken + n → Stands v w (Some []) end end batches (part ++ take n bytes)
  stands_behind bytes words n end c w is read within of folds counted =
      let same : request_text words ≡ record_writer c = ap request_text (sym (record_read words c (version_read v words c of).0).0) in
      let text = more_text bytes words n c same (ends_there held bytes words n read) in
      let long : end ≡ length (part ++ take n bytes) = omega (arith, counted, stands.taken_is, length-append part (take n bytes), length-take n bytes, within) in
      record {
        changes = stands.changes ++ c ∷ [];
        beginning = [];
        text = text ∙ sym (append-nil (records_text (stands.changes ++ c ∷ [])));
        recorded = each-append (IsRecordedIn v) stands.changes (c ∷ []) stands.recorded (is_recorded v words c is of, tt);
        goes_on = nothing_begun;
        waits = refl;
        taken_is = long;
        place_is = long ∙ ap (λ (l : Bytes). length l) text;
        world_is = folds ∙ ap (λ (x : World). after x c) stands.world_is ∙ sym (folded-append (world_in v batches) stands.changes (c ∷ []));
      }

  -- refused bytes
  refused_text : (bytes : Bytes) → records_text stands.changes ++ (held ++ bytes) ≡ part ++ bytes
  refused_text bytes = sym (ap (λ (l : Bytes). l ++ bytes) text_is ∙ append_assoc (records_text stands.changes) held bytes)

  refused_there : (bytes : Bytes) → IsNoRecord v (records_text stands.changes ++ (held ++ bytes)) (length (records_text stands.changes)) → IsNoRecord v (part ++ bytes) place
  refused_there bytes none = subst (λ (l : Bytes). IsNoRecord v l place) (refused_text bytes) (subst (λ (k : ℕ). IsNoRecord v (records_text stands.changes ++ (held ++ bytes)) k) (sym stands.place_is) none)

  pub refuses_words : (bytes behind : Bytes) (words : List Bytes) → request (held ++ bytes) ≡ found words behind → change_of_version v words ≡ None → IsNoRecord v (part ++ bytes) place
  refuses_words bytes behind words is none = refused_there bytes (words_refused v stands.changes (held ++ bytes) behind words stands.recorded is none)

  pub refuses_bytes : (bytes : Bytes) (fault : RespFault) → request (held ++ bytes) ≡ broken fault
      → ((rest : Bytes) → request ((held ++ bytes) ++ rest) ≡ broken fault) → IsNoRecord v (part ++ bytes) place
  refuses_bytes bytes fault is stays = refused_there bytes (bytes_refused v stands.changes (held ++ bytes) fault stands.recorded is stays)

-- the end of a batch

module _ (v : ℕ) (world : World) (waiting : Option Bytes) (taken place : ℕ) (batches : List Bytes) (part : Bytes) (stands : Stands v world waiting taken place batches part) where
  held_length : taken ≡ place + length stands.beginning
  held_length = omega (arith, stands.taken_is, stands.place_is, ap (λ (l : Bytes). length l) stands.text, length-append (records_text stands.changes) stands.beginning)

  pub cut_there : place < taken → (place ≤ length part) × (record_fault v part ≡ Some place)
  cut_there less =
      let cut = cut_off v stands.changes stands.beginning stands.recorded (omega (arith, held_length, less)) stands.goes_on in
      (omega (arith, less, stands.taken_is), ap (record_fault v) stands.text ∙ cut ∙ ap (λ (k : ℕ). Some k) (sym stands.place_is))

  no_bytes : (bytes : Bytes) → length bytes ≡ 0 → bytes ≡ []
  no_bytes [] none = refl
  no_bytes (b ∷ bytes) none = absurd (omega (arith, none))

  -- nothing waits where all bytes are of whole records
  nothing_waits : taken ≤ place → stands.beginning ≡ []
  nothing_waits all = no_bytes stands.beginning (omega (arith, held_length, all))

  whole_text : taken ≤ place → part ≡ records_text stands.changes
  whole_text all = stands.text ∙ ap (λ (l : Bytes). records_text stands.changes ++ l) (nothing_waits all) ∙ append-nil (records_text stands.changes)

  pub whole_there : taken ≤ place → record_fault v part ≡ None
  whole_there all = ap (record_fault v) (whole_text all) ∙ (all_whole v stands.changes stands.recorded).0

  one_batch : (others : List Bytes) → flat_map (changes_in v) (others ++ part ∷ []) ≡ flat_map (changes_in v) others ++ changes_in v part
  one_batch [] = append-nil (changes_in v part)
  one_batch (b ∷ others) = ap (λ (l : List Change). changes_in v b ++ l) (one_batch others) ∙ sym (append_assoc (changes_in v b) (flat_map (changes_in v) others) (changes_in v part))

  pub stands_ended : taken ≤ place → Stands v world waiting 0 0 (batches ++ part ∷ []) []
  stands_ended all =
      let same : changes_in v part ≡ stands.changes = ap (changes_in v) (whole_text all) ∙ (all_whole v stands.changes stands.recorded).1 in
      record {
        changes = [];
        beginning = [];
        text = refl;
        recorded = tt;
        goes_on = nothing_begun;
        waits = stands.waits ∙ ap (λ (l : Bytes). Some l) (nothing_waits all);
        taken_is = refl;
        place_is = refl;
        world_is = stands.world_is ∙ ap (λ (l : List Change). folded (world_in v batches) l) (sym same)
            ∙ sym (folded-append empty_world (flat_map (changes_in v) batches) (changes_in v part)) ∙ ap (λ (l : List Change). folded empty_world l) (sym (one_batch batches));
      }

-- a piece that is taken part by part

pub behind : (piece : Bytes) (at : ℕ) → take (length piece - at) (drop at piece) ≡ drop at piece
behind piece at = take_all (length piece - at) (drop at piece) (omega (arith, length-drop at piece))

pub more_taken : (part piece : Bytes) (at n : ℕ) → (part ++ take at piece) ++ take n (drop at piece) ≡ part ++ take (at + n) piece
more_taken part piece at n = append_assoc part (take at piece) (take n (drop at piece)) ∙ ap (λ (l : Bytes). part ++ l) (sym (take-add at n piece))

pub all_taken : (part piece : Bytes) (at : ℕ) → (part ++ take at piece) ++ drop at piece ≡ part ++ piece
all_taken part piece at = append_assoc part (take at piece) (drop at piece) ∙ ap (λ (l : Bytes). part ++ l) (take-append-drop at piece)
