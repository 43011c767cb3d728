-- Records behind one another, and what stands behind the last of them.
use Rattle.std.proofs.Common.{◌≡◌, ℕ, zero, suc, ◌+◌, ◌-◌, ◌≤◌, ◌<◌, List, [], ◌∷◌, ◌++◌, length, take, drop, Option, Some, None, Err, option_map, refl, sym, ap, ◌∙◌, arith, append_assoc, append-nil, length-append}
use Rattle.std.specs.List.{AllByRecursion}
use Rattle.std.proofs.lemmas.List.{append_cancel_right, take-append-drop}
use Rattle.byte_text.specs.Names.{Bytes}
use Rattle.byte_text.specs.Requests.{request_text}
use Rattle.byte_text.specs.Streams.{Front, found, begun, broken, request}
use Rattle.byte_text.specs.declared.faults.RespFault.{RespFault}
use Rattle.byte_text.specs.StreamTexts.{request_read, text_long}
use Rattle.byte_text.specs.StreamFound.{request_found}
use Rattle.world_data.specs.Records.{record_reader, record_writer}
use Rattle.world_data.specs.declared.worlds.Change.{Change}
use Rattle.log_record.specs.Versions.{IsRecordedIn, change_of_version}
use Rattle.log_record.specs.Batches.{records_text, record_front, with_record, records_behind, first_records, records_in}
use Rattle.log_record.specs.BatchesRead.{front_read, records_read}
use Rattle.world_recovery.specs.Recorded.{fault_of, changes_of, record_fault, changes_in}
use Rattle.world_recovery.specs.Replayed.{IsNoRecord}

-- what is read of whole records, where what stands behind them is none

broken_off : (v n at : ℕ) (b : ℕ) (tail : Bytes) → record_front v (request (b ∷ tail)) ≡ None → first_records v n at (b ∷ tail) ≡ Err at
broken_off v zero at b tail none = refl
broken_off v (suc n) at b tail none = ap (λ (x : Option (Change × Bytes)). records_behind at (b ∷ tail) x (first_records v n)) none

first_broken : (v n at b : ℕ) (changes : List Change) (tail : Bytes) → AllByRecursion (IsRecordedIn v) changes → record_front v (request (b ∷ tail)) ≡ None
    → length (records_text changes) ≤ n → first_records v n at (records_text changes ++ b ∷ tail) ≡ Err (at + length (records_text changes))
first_broken v n at b [] tail are none few = broken_off v n at b tail none ∙ ap (λ (k : ℕ). Err k) (let e : at ≡ at + 0 = omega arith in e)
first_broken v zero at b (c ∷ changes) tail are none few = absurd (omega (arith, few, text_long (record_reader c), length-append (record_writer c) (records_text changes)))
first_broken v (suc n) at b (c ∷ changes) tail are none few =
    let rest = records_text changes ++ b ∷ tail in
    let long = length-append (record_writer c) (records_text changes) in
    let whole = length-append (record_writer c) rest in
    let some = text_long (record_reader c) in
    let next = at + (length (record_writer c ++ rest) - length rest) in
    let behind = first_broken v n next b changes tail are.1 none (omega (arith, few, long, some)) in
    let place : next + length (records_text changes) ≡ at + length (records_text (c ∷ changes)) = omega (arith, long, whole) in
    ap (first_records v (suc n) at) (append_assoc (record_writer c) (records_text changes) (b ∷ tail))
    ∙ ap (λ (x : Option (Change × Bytes)). records_behind at (record_writer c ++ rest) x (first_records v n)) (front_read v c rest are.0)
    ∙ ap (with_record c) behind ∙ ap (λ (k : ℕ). Err k) place

-- the first bytes that are no record stand behind the records
fault_behind : (v : ℕ) (changes : List Change) (tail : Bytes) → AllByRecursion (IsRecordedIn v) changes → 0 < length tail → record_front v (request tail) ≡ None
    → record_fault v (records_text changes ++ tail) ≡ Some (length (records_text changes))
unfolding records_in
fault_behind v changes [] are some none = absurd (omega (arith, some))
fault_behind v changes (b ∷ tail) are some none =
    ap fault_of (first_broken v (length (records_text changes ++ b ∷ tail)) 0 b changes tail are none (omega (arith, length-append (records_text changes) (b ∷ tail))))
    ∙ ap (λ (k : ℕ). Some k) (let e : 0 + length (records_text changes) ≡ length (records_text changes) = omega arith in e)

-- nothing begins a request, and no request is nothing

pub nothing_begun : request [] ≡ begun
unfolding request
nothing_begun = refl

begun_not_found : (words : List Bytes) (rest : Bytes) → begun ≡ found words rest → ⊥
begun_not_found words rest e = cc e

-- behind a beginning a request ends with some byte
pub some_end : (held bytes : Bytes) (words : List Bytes) (n : ℕ) → request held ≡ begun → request (held ++ bytes) ≡ found words (drop n bytes) → 0 < n
some_end held bytes words zero goes is =
    let read = request_found (held ++ bytes) words bytes is in
    let whole : held ≡ request_text words = append_cancel_right held (request_text words) bytes read.1 in
    let again : request held ≡ found words [] = ap request (whole ∙ sym (append-nil (request_text words))) ∙ request_read words [] read.0 in
    absurd (begun_not_found words [] (sym goes ∙ again))
some_end held bytes words (suc n) goes is = omega arith

-- so many bytes end it
pub ends_there : (held bytes : Bytes) (words : List Bytes) (n : ℕ) → request (held ++ bytes) ≡ found words (drop n bytes) → held ++ take n bytes ≡ request_text words
ends_there held bytes words n is =
    let read = request_found (held ++ bytes) words (drop n bytes) is in
    append_cancel_right (held ++ take n bytes) (request_text words) (drop n bytes)
    (append_assoc held (take n bytes) (drop n bytes) ∙ ap (λ (l : Bytes). held ++ l) (take-append-drop n bytes) ∙ read.1)

-- refused bytes

some_byte : (bytes rest : Bytes) → (request bytes ≡ begun → ⊥) → 0 < length (bytes ++ rest)
some_byte [] rest not_begun = absurd (not_begun nothing_begun)
some_byte (b ∷ bytes) rest not_begun = omega arith

no_record : (v : ℕ) (changes : List Change) (tail : Bytes) → AllByRecursion (IsRecordedIn v) changes → (request tail ≡ begun → ⊥)
    → ((rest : Bytes) → record_front v (request (tail ++ rest)) ≡ None) → IsNoRecord v (records_text changes ++ tail) (length (records_text changes))
no_record v changes tail are not_begun none = record {
  within = omega (arith, length-append (records_text changes) tail);
  none = λ rest. ap (record_fault v) (append_assoc (records_text changes) tail rest) ∙ fault_behind v changes (tail ++ rest) are (some_byte tail rest not_begun) (none rest);
}

pub words_refused : (v : ℕ) (changes : List Change) (tail behind : Bytes) (words : List Bytes) → AllByRecursion (IsRecordedIn v) changes → request tail ≡ found words behind
    → change_of_version v words ≡ None → IsNoRecord v (records_text changes ++ tail) (length (records_text changes))
words_refused v changes tail behind words are is none =
    let read = request_found tail words behind is in
    no_record v changes tail are (λ e. begun_not_found words behind (sym e ∙ is))
    (λ rest.
    let again : request (tail ++ rest) ≡ found words (behind ++ rest) = ap (λ (l : Bytes). request (l ++ rest)) read.1 ∙ ap request (append_assoc (request_text words) behind rest) ∙ request_read words (behind ++ rest) read.0 in
    ap (record_front v) again ∙ ap (option_map (λ (c : Change). (c, behind ++ rest))) none)

begun_not_broken : (fault : RespFault) (x : Front (List Bytes)) → x ≡ broken fault → x ≡ begun → ⊥
begun_not_broken fault x e f = cc

pub bytes_refused : (v : ℕ) (changes : List Change) (tail : Bytes) (fault : RespFault) → AllByRecursion (IsRecordedIn v) changes → request tail ≡ broken fault
    → ((rest : Bytes) → request (tail ++ rest) ≡ broken fault) → IsNoRecord v (records_text changes ++ tail) (length (records_text changes))
bytes_refused v changes tail fault are is stays =
    no_record v changes tail are (begun_not_broken fault (request tail) is) (λ rest. ap (record_front v) (stays rest))

-- whole records, and those that are cut off

pub cut_off : (v : ℕ) (changes : List Change) (tail : Bytes) → AllByRecursion (IsRecordedIn v) changes → 0 < length tail → request tail ≡ begun
    → record_fault v (records_text changes ++ tail) ≡ Some (length (records_text changes))
cut_off v changes tail are some is = fault_behind v changes tail are some (ap (record_front v) is)

pub all_whole : (v : ℕ) (changes : List Change) → AllByRecursion (IsRecordedIn v) changes
    → (record_fault v (records_text changes) ≡ None) × (changes_in v (records_text changes) ≡ changes)
all_whole v changes are = let read = records_read v 0 changes are in (ap fault_of read, ap changes_of read)
