-- Where a side is damaged for a journal, it is for the log's definitions.
use Rattle.std.proofs.Common.{◌≡◌, ◌⊎◌, ◌∙◌, ◌+◌, ◌-◌, ◌≤◌, ◌<◌, ◌^◌, ℕ, zero, suc, false, nat_le, List, [], ◌∷◌, ◌++◌, length, take, drop, Option}
use Rattle.std.proofs.Common.{None, Some, Result, Ok, Err, refl, sym, ap, inl, inr, arith, append_assoc, append-nil, length-append}
use Rattle.std.proofs.lemmas.Bool.{ltb-false}
use Rattle.std.proofs.lemmas.Bool.Decides.{nat_tests}
use Rattle.byte_text.specs.Names.{Bytes}
use Rattle.byte_text.specs.Streams.{request}
use Rattle.world_data.specs.declared.worlds.Change.{Change}
use Rattle.outside.specs.declared.sides.Side.{Side}
use Rattle.outside.specs.Sides.{Sides, side_of}
use Rattle.log_sides.specs.Texts.{open_gate, number_bytes, header, framed, batches_text, front_text, gate_place, max_side}
use Rattle.log_sides.specs.Torn.{length-framed, length-number_bytes}
use Rattle.append_log.specs.Heads.{head_of}
use Rattle.append_log.specs.Reading.{number_in, HasNoGate, HasNoBatch}
use Rattle.journal.specs.Openings.{AreWhole, HasNoRecord, IsBroken, IsDamaged}
use Rattle.log_record.specs.Batches.{number_of, record_front, with_record, records_behind, first_records, records_in, with_changes, first_batches}
use Rattle.log_record.specs.Batches.{batches_in}
use Rattle.log_record.specs.BatchesRead.{framed_read}
use Rattle.log_record.specs.Readings.{reading, reading_of, reading_in_use, side_in_use, cause_of, unless_damaged, generation_of}
use Rattle.log_record.specs.Readings.{header_len, Damaged}
use Rattle.world_recovery.specs.Recorded.{fault_of, changes_in, record_fault}
use Rattle.world_recovery.specs.HeadsRead.{head_says}
use Rattle.world_recovery.specs.HeadsDamaged.{heads_damaged, heads_used, IsInUse}
use Rattle.world_recovery.specs.BatchesHeld.{read_whole}

-- records that begin later in their side break off so much later
abbrev later : ℕ → Result (List Change) ℕ → Result (List Change) ℕ
later k (Ok changes) = Ok changes
later k (Err at) = Err (k + at)

later_with : (k : ℕ) (c : Change) (r : Result (List Change) ℕ) → later k (with_record c r) ≡ with_record c (later k r)
later_with k c (Ok changes) = refl
later_with k c (Err at) = refl

front_later : (k at : ℕ) (bytes : Bytes) (front : Option (Change × Bytes)) (next : ℕ → Bytes → Result (List Change) ℕ)
    → ((j : ℕ) (rest : Bytes) → next (k + j) rest ≡ later k (next j rest))
    → records_behind (k + at) bytes front next ≡ later k (records_behind at bytes front next)
front_later k at bytes None next f = refl
front_later k at bytes (Some front) next f =
    let size = length bytes - length front.1 in
    ap (λ (j : ℕ). with_record front.0 (next j front.1)) (let e : k + at + size ≡ k + (at + size) = omega arith in e)
    ∙ ap (with_record front.0) (f (at + size) front.1) ∙ sym (later_with k front.0 (next (at + size) front.1))

first_later : (v n k at : ℕ) (bytes : Bytes) → first_records v n (k + at) bytes ≡ later k (first_records v n at bytes)
first_later v zero k at [] = refl
first_later v (suc n) k at [] = refl
first_later v zero k at (b ∷ bytes) = refl
first_later v (suc n) k at (b ∷ bytes) =
    front_later k at (b ∷ bytes) (record_front v (request (b ∷ bytes))) (first_records v n) (first_later v n k)

records_later : (v at : ℕ) (batch : Bytes) → records_in v at batch ≡ later at (records_in v 0 batch)
unfolding records_in
records_later v at batch = ap (λ (j : ℕ). first_records v (length batch) j batch) (let e : at ≡ at + 0 = omega arith in e)
    ∙ first_later v (length batch) at 0 batch

whole_there : (v at : ℕ) (batch : Bytes) → record_fault v batch ≡ None → records_in v at batch ≡ Ok (changes_in v batch)
whole_there v at batch whole = records_later v at batch ∙ ap (later at) (read_whole (records_in v 0 batch) whole)

broken_off : (r : Result (List Change) ℕ) (at : ℕ) → fault_of r ≡ Some at → r ≡ Err at
broken_off (Ok changes) at e = absurd (cc e)
broken_off (Err j) at e = ap Err (let same : j ≡ at = cc e in same)

broken_there : (v at off : ℕ) (batch : Bytes) → record_fault v batch ≡ Some off → records_in v at batch ≡ Err (at + off)
broken_there v at off batch none = records_later v at batch ∙ ap (later at) (broken_off (records_in v 0 batch) off none)

-- what breaks off behind whole batches
few_batches : (batches : List Bytes) → length batches ≤ length (batches_text batches)
few_batches [] = omega arith
few_batches (batch ∷ batches) = omega (arith, few_batches batches, length-append (framed batch) (batches_text batches))

broken_behind : (v n at place : ℕ) (batches : List Bytes) (tail : Bytes) → AreWhole (record_fault v) batches
    → length (batches_text batches) < 2 ^ 64 → length batches < n
    → ((k at' : ℕ) → at' ≡ at + length (batches_text batches) → first_batches v (suc k) at' tail ≡ Err place)
    → first_batches v n at (batches_text batches ++ tail) ≡ Err place
broken_behind v zero at place batches tail whole short few broken = absurd (omega (arith, few))
broken_behind v (suc n) at place [] tail whole short few broken = broken n at (omega arith)
broken_behind v (suc n) at place (batch ∷ batches) tail whole short few broken =
    let rest = batches_text batches ++ tail in
    let size = length batch in
    let long = length-append (framed batch) (batches_text batches) in
    let frame = length-framed batch in
    let assoc : batches_text (batch ∷ batches)
    ++ tail ≡ open_gate ∷ (framed batch ++ rest) = ap (λ (l : Bytes). open_gate ∷ l) (append_assoc (framed batch) (batches_text batches) tail) in
    let behind = broken_behind v n (at + 9 + size) place batches tail whole.1 (omega (arith, short, long)) (omega (arith, few))
    (λ k at' is. broken k at' (omega (arith, is, long, frame))) in
    ap (first_batches v (suc n) at) assoc
    ∙ framed_read v at batch rest (first_batches v n) (omega (arith, short, long, frame))
    ∙ ap (λ (r : Result (List Change) ℕ). with_changes r (first_batches v n (at + 9 + size) rest)) (whole_there v (at + 9) batch whole.0)
    ∙ ap (with_changes (Ok (changes_in v batch))) behind

not_within : (n k : ℕ) → n < k → nat_le k n ≡ false
not_within n k less = grind (arith, nat_tests)

no_batch : (v k at : ℕ) (rest : Bytes) → length rest < 8 + number_in (take 8 rest) → first_batches v (suc k) at (open_gate ∷ rest) ≡ Err (at + 1)
no_batch v k at rest past = rw (not_within (length rest) (8 + number_of (take 8 rest)) past) refl

no_record : (v k at off : ℕ) (batch rest : Bytes) → length batch < 2 ^ 64 → record_fault v batch ≡ Some off
    → first_batches v (suc k) at (open_gate ∷ (framed batch ++ rest)) ≡ Err (at + 9 + off)
no_record v k at off batch rest short none =
    framed_read v at batch rest (first_batches v k) short
    ∙ ap (λ (r : Result (List Change) ℕ). with_changes r (first_batches v k (at + 9 + length batch) rest)) (broken_there v (at + 9) off batch none)

-- a side
behind_header : (v g : ℕ) (batches : List Bytes) (tail : Bytes) → drop header_len (front_text v g batches ++ tail) ≡ batches_text batches ++ tail
unfolding number_bytes
behind_header v g batches tail = refl

place_behind : (v g : ℕ) (batches : List Bytes) → gate_place v g batches ≡ 16 + length (batches_text batches)
place_behind v g batches = omega (arith, length-append (header v g) (batches_text batches), length-number_bytes g)

broken_text : (v g place : ℕ) (batches : List Bytes) (side tail : Bytes) → AreWhole (record_fault v) batches → length side ≤ max_side
    → side ≡ front_text v g batches ++ tail
    → ((k at : ℕ) → at ≡ gate_place v g batches → first_batches v (suc k) at tail ≡ Err place)
    → batches_in v header_len (drop header_len side) ≡ Err place
unfolding batches_in
broken_text v g place batches side tail whole short text broken =
    let bytes = batches_text batches ++ tail in
    let long = length-append (front_text v g batches) tail in
    let front = place_behind v g batches in
    ap (λ (l : Bytes). batches_in v header_len (drop header_len l)) text ∙ ap (batches_in v header_len) (behind_header v g batches tail)
    ∙ broken_behind v (length bytes + 1) header_len place batches tail whole (omega (arith, short, ap length text, long, front))
    (omega (arith, few_batches batches, length-append (batches_text batches) tail))
    (λ k at is. broken k at (omega (arith, is, front)))

broken_reads : (v g place : ℕ) (side : Bytes) → length side ≤ max_side → IsBroken record_fault v g side place
    → batches_in v header_len (drop header_len side) ≡ Err place
broken_reads v g place side short broken = by_cause broken.cause
  where
    by_cause : (HasNoGate v g broken.batches side place ⊎ HasNoBatch v g broken.batches side place)
        ⊎ HasNoRecord (record_fault v) v g broken.batches side place → batches_in v header_len (drop header_len side) ≡ Err place
    by_cause (inl (inl no_gate)) =
        broken_text v g place broken.batches side [] broken.whole short (no_gate.text ∙ sym (append-nil (front_text v g broken.batches)))
        (λ k at is. ap Err (is ∙ sym no_gate.here))
    by_cause (inl (inr past)) =
        broken_text v g place broken.batches side (open_gate ∷ past.rest) broken.whole short past.text
        (λ k at is. no_batch v k at past.rest past.past ∙ ap Err (let e : at + 1 ≡ place = omega (arith, is, past.here) in e))
    by_cause (inr none) =
        broken_text v g place broken.batches side (open_gate ∷ (framed none.batch ++ none.rest)) broken.whole short none.text
        (λ k at is.
        no_record v k at none.at none.batch none.rest
        (omega (
          arith,
          short,
          ap length none.text,
          length-append (front_text v g broken.batches)
              (open_gate ∷ (framed none.batch ++ none.rest)),
          length-append (framed none.batch) none.rest,
          length-framed none.batch,
        )) none.none
        ∙ ap Err (let e : at + 9 + none.at ≡ place = omega (arith, is, none.here) in e))

-- both sides
used_damaged : (s : Sides) (side : Side) (v place : ℕ) → IsInUse s side v → batches_in v header_len (drop header_len (side_of s side)) ≡ Err place
    → Damaged s side place
unfolding reading
used_damaged s side v place kept broken =
    let bytes = side_of s side in
    ap (λ (c : Option (Side × ℕ)). unless_damaged c (reading_in_use s (side_in_use s))) kept.fine ∙ ap (reading_in_use s) kept.used
    ∙ ap (λ (w : ℕ). reading_of side w (generation_of bytes) (batches_in w header_len (drop header_len bytes))) kept.versioned
    ∙ ap (reading_of side v (generation_of bytes)) broken

heads_are_damaged : (s : Sides) (side : Side) (place : ℕ) → cause_of s ≡ Some (side, place) → Damaged s side place
unfolding reading
heads_are_damaged s side place is = ap (λ (c : Option (Side × ℕ)). unless_damaged c (reading_in_use s (side_in_use s))) is

-- damage is found where the definitions have it
pub damaged_reads : (s : Sides) (side : Side) (place : ℕ) → IsDamaged record_fault s side place → Damaged s side place
damaged_reads s side place (inl heads) =
    heads_are_damaged s side place (heads_damaged s (head_of s.a) (head_of s.b) side place (head_says s.a) (head_says s.b) heads)
damaged_reads s side place (inr broken) =
    let v = broken.version in
    let kept = heads_used s (head_of s.a) (head_of s.b) side v broken.generation broken.len (head_says s.a) (head_says s.b) broken.used in
    used_damaged s side v place kept
    (broken_reads v broken.generation place (side_of s side) (ltb-false max_side (length (side_of s side)) kept.short) broken.broken)
