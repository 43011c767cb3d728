-- Batches of records are read back.
use Rattle.std.proofs.Common.{arith, ◌≡◌, ℕ, zero, suc, ◌+◌, ◌-◌, ◌^◌, ◌<◌, ◌≤◌, true, false, List, [], ◌∷◌, ◌++◌, length, take, drop, Option, Some}
use Rattle.std.proofs.Common.{Result, Ok, Err, option_map, refl, sym, ap, ◌∙◌, append_assoc, length-append, nat_le, if◌then◌else◌, ◌==◌, le-leb}
use Rattle.std.specs.List.{AllByRecursion}
use Rattle.std.proofs.lemmas.Nat.{from_be_bytes-to_be_bytes_8}
use Rattle.std.proofs.lemmas.List.{drop-drop, take_at, drop_at}
use Rattle.byte_text.specs.Names.{Bytes}
use Rattle.byte_text.specs.Streams.{request}
use Rattle.byte_text.specs.StreamTexts.{request_read, text_long}
use Rattle.log_sides.specs.Torn.{length-number_bytes}
use Rattle.world_data.specs.Records.{record_reader, record_writer}
use Rattle.world_data.specs.declared.worlds.Change.{Change}
use Rattle.log_record.specs.Versions.{IsRecordedIn}
use Rattle.log_record.specs.VersionLaws.{read_back_in}
use Rattle.log_record.specs.Batches.{number_bytes, number_of, records_text, batch_text, open_gate, record_front, with_record, records_behind}
use Rattle.log_record.specs.Batches.{first_records, records_in, Batches, with_changes, batch_behind, first_batches, batches_in, all_changes}
use Rattle.log_record.specs.Batches.{AreRecorded}
use Rattle.log_record.specs.Readings.{open_batches}

-- records

pub front_read : (v : ℕ) (c : Change) (rest : Bytes) → IsRecordedIn v c → record_front v (request (record_writer c ++ rest)) ≡ Some (c, rest)
front_read v c rest is = ap (record_front v) (request_read (record_reader c) rest is.recorded.fits)
    ∙ ap (option_map (λ (d : Change). (d, rest))) (read_back_in v c is)

first_read : (v n at : ℕ) (changes : List Change) → AllByRecursion (IsRecordedIn v) changes → length (records_text changes) ≤ n
    → first_records v n at (records_text changes) ≡ Ok changes
first_read v zero at [] are few = refl
first_read v (suc n) at [] are few = refl
first_read v zero at (c ∷ changes) are few =
    absurd (omega (arith, few, text_long (record_reader c), length-append (record_writer c) (records_text changes)))
first_read v (suc n) at (c ∷ changes) are few =
    let bytes = record_writer c ++ records_text changes in
    let behind = first_read v n (at + (length bytes - length (records_text changes))) changes are.1
    (omega (arith, few, text_long (record_reader c), length-append (record_writer c) (records_text changes))) in
    ap (λ (x : Option (Change × Bytes)). records_behind at bytes x (first_records v n)) (front_read v c (records_text changes) are.0)
    ∙ ap (with_record c) behind

pub records_read : (v at : ℕ) (changes : List Change) → AllByRecursion (IsRecordedIn v) changes → records_in v at (records_text changes) ≡ Ok changes
unfolding records_in
records_read v at changes are = first_read v (length (records_text changes)) at changes are (omega arith)

-- batches

-- whatever a batch holds, so many bytes of it are read as records
pub framed_read : (v at : ℕ) (batch rest : Bytes) (next : ℕ → Bytes → Result Batches ℕ) → length batch < 2 ^ 64
    → batch_behind v at ((number_bytes (length batch) ++ batch) ++ rest) next
    ≡ with_changes (records_in v (at + 9) batch) (next (at + 9 + length batch) rest)
unfolding number_bytes
framed_read v at batch rest next small =
    let n = length batch in
    let bytes = number_bytes n ++ (batch ++ rest) in
    let assoc : (number_bytes n ++ batch) ++ rest ≡ bytes = append_assoc (number_bytes n) batch rest in
    let number : number_of (take 8 bytes) ≡ n = from_be_bytes-to_be_bytes_8 n small in
    let long : nat_le (8 + n) (length bytes) ≡ true = le-leb (8 + n) (length bytes)
    (omega (arith, length-append (number_bytes n) (batch ++ rest), length-append batch rest, length-number_bytes n)) in
    let inside : take n (drop 8 bytes) ≡ batch = take_at batch rest n refl in
    let behind : drop (8 + n) bytes ≡ rest = sym (drop-drop n 8 bytes) ∙ drop_at batch rest n refl in
    ap (λ (l : Bytes). batch_behind v at l next) assoc
    ∙ ap (λ (m : ℕ). if nat_le (8 + m) (length bytes) then with_changes (records_in v (at + 9) (take m (drop 8 bytes)))
    (next (at + 9 + m) (drop (8 + m) bytes)) else Err (at + 1)) number
    ∙ rw long (ap (λ (l : Bytes). with_changes (records_in v (at + 9) l) (next (at + 9 + n) (drop (8 + n) bytes))) inside
    ∙ ap (λ (l : Bytes). with_changes (records_in v (at + 9) batch) (next (at + 9 + n) l)) behind)

batch_read : (v at : ℕ) (changes : List Change) (rest : Bytes) (next : ℕ → Bytes → Result Batches ℕ) → AllByRecursion (IsRecordedIn v) changes
    → length (records_text changes) < 2 ^ 64
    → batch_behind v at (batch_text changes ++ rest) next ≡ with_changes (Ok changes) (next (at + 9 + length (records_text changes)) rest)
batch_read v at changes rest next are small =
    let records = records_text changes in
    framed_read v at records rest next small ∙ ap (λ (r : Result (List Change) ℕ). with_changes r (next (at + 9 + length records) rest))
    (records_read v (at + 9) changes are)

-- batches and a gate that is not open

pub first_batches_read : (v n at gate : ℕ) (batches : List (List Change)) (stale : Bytes) → (gate == open_gate) ≡ false → AreRecorded v batches
    → length batches < n
    → first_batches v n at (open_batches batches ++ gate ∷ stale)
    ≡ Ok (record { changes = all_changes batches; gate = at + length (open_batches batches) })
first_batches_read v zero at gate batches stale closed are few = absurd (omega (arith, few))
first_batches_read v (suc n) at gate [] stale closed are few = rw closed (ap (λ (k : ℕ). Ok (record { changes = []; gate = k })) (omega arith))
first_batches_read v (suc n) at gate (changes ∷ batches) stale closed are few =
    let rest = open_batches batches ++ gate ∷ stale in
    let size = length (records_text changes) in
    let assoc : open_batches (changes ∷ batches) ++ gate ∷ stale ≡ open_gate ∷
    (batch_text changes ++ rest) = append_assoc (open_gate ∷ batch_text changes) (open_batches batches) (gate ∷ stale) in
    let behind = first_batches_read v n (at + 9 + size) gate batches stale closed are.1 (omega (arith, few)) in
    let long : at + 9 + size + length (open_batches batches) ≡ at + length (open_batches (changes ∷ batches)) =
    omega (
      arith,
      length-append (open_gate ∷ batch_text changes) (open_batches batches),
      length-append (number_bytes size) (records_text changes),
      length-number_bytes size,
    ) in
    ap (first_batches v (suc n) at) assoc
    ∙ batch_read v at changes rest (first_batches v n) are.0.0 are.0.1
    ∙ ap (with_changes (Ok changes)) behind
    ∙ ap (λ (k : ℕ). Ok (record { changes = changes ++ all_changes batches; gate = k })) long

batches_long : (batches : List (List Change)) → length batches ≤ length (open_batches batches)
batches_long [] = omega arith
batches_long (changes ∷ batches) = omega (arith, batches_long batches, length-append (open_gate ∷ batch_text changes) (open_batches batches))

pub batches_read : (v at gate : ℕ) (batches : List (List Change)) (stale : Bytes) → (gate == open_gate) ≡ false → AreRecorded v batches
    → batches_in v at (open_batches batches ++ gate ∷ stale) ≡ Ok (record { changes = all_changes batches; gate = at + length (open_batches batches) })
unfolding batches_in
batches_read v at gate batches stale closed are =
    first_batches_read v (length (open_batches batches ++ gate ∷ stale) + 1) at gate batches stale closed are
    (omega (arith, batches_long batches, length-append (open_batches batches) (gate ∷ stale)))
