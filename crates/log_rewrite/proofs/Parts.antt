-- What writes leave of a side that is not open yet.
use Rattle.std.proofs.Common.{◌≡◌, ◌≢◌, ◌⊎◌, ◌+◌, ◌-◌, ◌≤◌, ◌∙◌, ℕ, List, [], ◌∷◌, ◌++◌, length, take, drop, refl, sym, ap, inl, inr, arith, length-append, append_assoc, append-nil, drop_of_length-le}
use Rattle.std.proofs.lemmas.List.{take_at}
use Rattle.std.proofs.lemmas.Bool.{cases_eq}
use Rattle.outside.specs.Disks.{write_over, Torn}
use Rattle.outside.specs.WriteLaws.{write_over-within, torn_within}
use Rattle.byte_text.specs.Names.{Bytes}
use Rattle.log_sides.specs.Texts.{StandsFor, IsHeading, open_gate, newest, header, batches_text, framed, sealed, with_batch, committed, written, gate_place, max_side}
use Rattle.log_sides.specs.Making.{IsBare, head_text}
use Rattle.log_sides.specs.Closing.{head_written}
use Rattle.log_sides.specs.Torn.{one_byte, gate_written, batches_text-append}
use Rattle.log_rewrite.specs.NewSides.{IsPart, rear_text, ShutOrStands}

-- the header was written behind a gate that stood alone
pub part_begun : (generation : ℕ) (piece old : Bytes) → piece ≡ head_text generation → IsBare old → IsPart generation [] (write_over 1 piece old)
part_begun generation piece old is bare =
    let made = head_written generation piece old is bare in
    record { gate = made.gate; closed = made.closed; is = made.is ∙ ap (λ (l : Bytes). made.gate ∷ (l ++ 0 ∷ [])) (sym (append-nil (header newest generation))) }

rear-append : (generation : ℕ) (batches : List Bytes) (batch : Bytes) → rear_text generation (with_batch batches batch) ≡ rear_text generation batches ++ open_gate ∷ framed batch
rear-append generation batches batch = ap (λ (l : Bytes). header newest generation ++ l) (batches_text-append batches batch) ∙ sym (append_assoc (header newest generation) (batches_text batches) (open_gate ∷ framed batch))

-- a piece written over the last byte
over_last : (front piece old : Bytes) (last : ℕ) → old ≡ front ++ last ∷ [] → 1 ≤ length piece → write_over (length front) piece old ≡ front ++ piece
over_last front piece old last is long =
    let size : length old ≡ length front + 1 = ap length is ∙ length-append front (last ∷ []) in
    let kept : take (length front) old ≡ front = ap (λ (l : Bytes). take (length front) l) is ∙ take_at front (last ∷ []) (length front) refl in
    let none : drop (length front + length piece) old ≡ [] = drop_of_length-le old (omega (arith, size, long)) in
    write_over-within (length front) piece old (omega (arith, size)) ∙ ap (λ (l : Bytes). l ++ piece ++ drop (length front + length piece) old) kept ∙ ap (λ (l : Bytes). front ++ piece ++ l) none ∙ append-nil (front ++ piece)

-- a batch was written at the last gate
pub part_grown : (generation : ℕ) (batches : List Bytes) (batch : Bytes) (at : ℕ) (piece old : Bytes) → at ≡ gate_place newest generation batches → piece ≡ sealed batch → IsPart generation batches old
    → IsPart generation (with_batch batches batch) (write_over at piece old)
part_grown generation batches batch at piece old place is part =
    let rear = rear_text generation batches in
    let front = part.gate ∷ rear in
    let here : write_over at piece old ≡ write_over (length front) piece old = ap (λ (j : ℕ). write_over j piece old) place in
    let wrote : write_over (length front) piece old ≡ front ++ piece = over_last front piece old 0 part.is (omega (arith, ap length is)) in
    let text : front ++ piece ≡ part.gate ∷ ((rear ++ open_gate ∷ framed batch) ++ 0 ∷ []) = ap (λ (l : Bytes). front ++ l) is ∙ ap (λ (l : Bytes). part.gate ∷ l) (sym (append_assoc rear (open_gate ∷ framed batch) (0 ∷ []))) in
    record { gate = part.gate; closed = part.closed; is = here ∙ wrote ∙ text ∙ ap (λ (l : Bytes). part.gate ∷ (l ++ 0 ∷ [])) (sym (rear-append generation batches batch)) }

-- the place of the last gate then
pub place_grown : (generation : ℕ) (batches : List Bytes) (batch : Bytes) → gate_place newest generation (with_batch batches batch) ≡ gate_place newest generation batches + length (sealed batch) - 1
place_grown generation batches batch =
    let rear = rear_text generation batches in
    omega (arith, ap length (rear-append generation batches batch), length-append rear (open_gate ∷ framed batch), length-append (framed batch) (0 ∷ []))

-- a batch that has records is written
pub written_some : (records : Bytes) → (length (written records) ≡ 0 → ⊥) → (written records ≡ sealed records) × ((batches : List Bytes) → committed batches records ≡ with_batch batches records)
written_some [] some = absurd (some refl)
written_some (byte ∷ bytes) some = (refl, λ batches. refl)

opened : (generation : ℕ) (batches : List Bytes) (side : Bytes) (b : ℕ) → IsHeading newest generation → gate_place newest generation batches + 1 ≤ max_side → b ≡ open_gate → side ≡ b ∷ (rear_text generation batches ++ 0 ∷ []) → StandsFor newest generation batches side
opened generation batches side b numbered room is text = record {
  numbered = numbered;
  within = omega (arith, room, ap length text, length-append (rear_text generation batches) (0 ∷ []));
  gate = 0;
  closed = omega arith;
  stale = [];
  text = text ∙ ap (λ (j : ℕ). j ∷ (rear_text generation batches ++ 0 ∷ [])) is;
}

-- the gate was opened
pub part_opened : (generation : ℕ) (batches : List Bytes) (old : Bytes) → IsHeading newest generation → gate_place newest generation batches + 1 ≤ max_side → IsPart generation batches old → StandsFor newest generation batches (write_over 0 (1 ∷ []) old)
part_opened generation batches old numbered room part =
    opened generation batches (write_over 0 (1 ∷ []) old) 1 numbered room refl (gate_written [] (rear_text generation batches ++ 0 ∷ []) old part.gate 1 part.is)

-- the gate was opened, or the write of it was torn
pub part_torn : (generation : ℕ) (batches : List Bytes) (old new : Bytes) → IsHeading newest generation → gate_place newest generation batches + 1 ≤ max_side → IsPart generation batches old → Torn 0 1 old new → ShutOrStands generation batches new
part_torn generation batches old new numbered room part torn =
    let rest = rear_text generation batches ++ 0 ∷ [] in
    let other = torn_within 0 1 old new (omega (arith, ap length part.is)) torn in
    let byte = one_byte other.0 other.1 in
    let text : new ≡ byte.0 ∷ rest = other.2 ∙ ap (λ (l : Bytes). write_over 0 l old) byte.1 ∙ gate_written [] rest old part.gate byte.0 part.is in
    by_gate byte.0 text (cases_eq byte.0 open_gate)
  where
    by_gate : (b : ℕ) → new ≡ b ∷ (rear_text generation batches ++ 0 ∷ []) → (b ≡ open_gate) ⊎ (b ≢ open_gate) → ShutOrStands generation batches new
    by_gate b text (inl is) = inr (opened generation batches new b numbered room is text)
    by_gate b text (inr closed) = inl (record { gate = b; closed = closed; rest = rear_text generation batches ++ 0 ∷ []; is = text; short = omega (arith, room, ap length text, length-append (rear_text generation batches) (0 ∷ [])) })
