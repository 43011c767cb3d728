-- What writes on a side of a log leave of the batches that it stands for.
use Rattle.std.proofs.Common.{◌≡◌, ◌≢◌, ◌⊎◌, ◌+◌, ◌≤◌, ◌<◌, ◌^◌, ◌∙◌, ℕ, List, [], ◌∷◌, ◌++◌, length, take, drop, refl, sym, ap, subst, inl, inr, arith}
use Rattle.std.proofs.Common.{length-append, append_assoc, append-nil, take-append-drop}
use Rattle.std.proofs.lemmas.List.{take_at, drop_at}
use Rattle.std.proofs.lemmas.Bool.{cases_eq}
use Rattle.outside.specs.WriteLaws.{length-write_over}
use Rattle.outside.specs.Disks.{write_over, Torn}
use Rattle.outside.specs.WriteLaws.{write_over-within, torn_within}
use Rattle.byte_text.specs.Names.{Bytes}
use Rattle.log_sides.specs.Texts.{StandsFor, IsHeading, newest, front_text, batches_text, framed, gate_place, header, open_gate, max_side, number_bytes}
use Rattle.log_sides.specs.Texts.{IsReady, with_batch, StandsWithin, committed}

-- a torn write behind the closed gate leaves the batches
pub torn_behind : (version generation : ℕ) (batches : List Bytes) (n : ℕ) (old new : Bytes) → StandsFor version generation batches old
    → gate_place version generation batches + 1 + n ≤ max_side
    → Torn (gate_place version generation batches + 1) n old new → StandsFor version generation batches new
torn_behind version generation batches n old new stands room torn =
    let front = front_text version generation batches in
    let at = length front + 1 in
    let kept : take at old ≡ front ++ stands.gate ∷ [] = ap (λ (l : Bytes). take at l) (stands.text
    ∙ sym (append_assoc front (stands.gate ∷ []) stands.stale))
    ∙ take_at (front ++ stands.gate ∷ []) stands.stale at (length-append front (stands.gate ∷ [])) in
    let reach : length (take at old) ≡ at = ap length kept ∙ length-append front (stands.gate ∷ []) in
    let same : take at new ≡ front ++ stands.gate ∷ [] = sym (torn.before ∙ ap (λ (j : ℕ). take j new) reach) ∙ kept in
    record {
      numbered = stands.numbered;
      within = omega (arith, torn.no_longer, stands.within);
      gate = stands.gate;
      closed = stands.closed;
      stale = drop at new;
      text = sym (take-append-drop at new) ∙ ap (λ (l : Bytes). l ++ drop at new) same ∙ append_assoc front (stands.gate ∷ []) (drop at new);
    }

pub length-number_bytes : (n : ℕ) → length (number_bytes n) ≡ 8
unfolding number_bytes
length-number_bytes n = refl

pub length-framed : (batch : Bytes) → length (framed batch) ≡ 8 + length batch
length-framed batch = length-append (number_bytes (length batch)) batch ∙ ap (λ (j : ℕ). j + length batch) (length-number_bytes (length batch))

-- one batch more goes behind the text
pub batches_text-append : (batches : List Bytes) (batch : Bytes)
    → batches_text (with_batch batches batch) ≡ batches_text batches ++ open_gate ∷ framed batch
batches_text-append [] batch = ap (λ (l : Bytes). open_gate ∷ l) (append-nil (framed batch))
batches_text-append (first ∷ later) batch = ap (λ (l : Bytes). open_gate ∷ l) (ap (λ (l : Bytes). framed first ++ l) (batches_text-append later batch)
    ∙ sym (append_assoc (framed first) (batches_text later) (open_gate ∷ framed batch)))

pub front_text-append : (version generation : ℕ) (batches : List Bytes) (batch : Bytes)
    → front_text version generation (with_batch batches batch) ≡ front_text version generation batches ++ open_gate ∷ framed batch
front_text-append version generation batches batch =
    ap (λ (l : Bytes). open_gate ∷ (header version generation ++ l)) (batches_text-append batches batch)
    ∙ ap (λ (l : Bytes). open_gate ∷ l) (sym (append_assoc (header version generation) (batches_text batches) (open_gate ∷ framed batch)))

pub gate_place-append : (version generation : ℕ) (batches : List Bytes) (batch : Bytes)
    → gate_place version generation (with_batch batches batch) ≡ gate_place version generation batches + 9 + length batch
gate_place-append version generation batches batch =
    ap length (front_text-append version generation batches batch) ∙ length-append (front_text version generation batches) (open_gate ∷ framed batch)
    ∙ omega (arith, length-framed batch)

-- the batch and the next gate were written
pub written_behind : (version generation : ℕ) (batches : List Bytes) (batch old : Bytes) → StandsFor version generation batches old
    → gate_place version generation batches + 10 + length batch ≤ max_side
    → IsReady version generation batches batch (write_over (gate_place version generation batches + 1) (framed batch ++ 0 ∷ []) old)
written_behind version generation batches batch old stands room =
    let front = front_text version generation batches in
    let at = length front + 1 in
    let piece = framed batch ++ 0 ∷ [] in
    let head = front ++ stands.gate ∷ [] in
    let rest = drop (at + length piece) old in
    let split : old ≡ head ++ stands.stale = stands.text ∙ sym (append_assoc front (stands.gate ∷ []) stands.stale) in
    let head_len : length head ≡ at = length-append front (stands.gate ∷ []) in
    let piece_len : length piece ≡ 9 + length batch = length-append (framed batch) (0 ∷ []) ∙ omega (arith, length-framed batch) in
    let inside : at ≤ length old = omega (arith, ap length split, length-append head stands.stale, head_len) in
    let kept : take at old ≡ head = ap (λ (l : Bytes). take at l) split ∙ take_at head stands.stale at head_len in
    record {
      numbered = stands.numbered;
      within = omega (arith, length-write_over at piece old, piece_len, stands.within);
      gate = stands.gate;
      closed = stands.closed;
      stale = rest;
      text = write_over-within at piece old inside ∙ ap (λ (l : Bytes). l ++ piece ++ rest) kept ∙ append_assoc head piece rest
          ∙ append_assoc front (stands.gate ∷ []) (piece ++ rest)
          ∙ ap (λ (l : Bytes). front ++ stands.gate ∷ l) (append_assoc (framed batch) (0 ∷ []) rest);
    }

-- a side with a batch that is ready, and any gate in front of it
gate_chosen : (version generation : ℕ) (batches : List Bytes) (batch stale side : Bytes) (gate : ℕ) → IsHeading version generation → length side ≤ max_side
    → side ≡ front_text version generation batches ++ gate ∷ (framed batch ++ 0 ∷ stale)
    → (gate ≡ open_gate) ⊎ (gate ≢ open_gate) → StandsWithin version generation batches batch side
gate_chosen version generation batches batch stale side gate numbered within text (inl opened) = inr (record {
  numbered = numbered;
  within = within;
  gate = 0;
  closed = omega arith;
  stale = stale;
  text = text ∙ ap (λ (b : ℕ). front_text version generation batches ++ b ∷ (framed batch ++ 0 ∷ stale)) opened
      ∙ sym (append_assoc (front_text version generation batches) (open_gate ∷ framed batch) (0 ∷ stale))
      ∙ ap (λ (l : Bytes). l ++ 0 ∷ stale) (sym (front_text-append version generation batches batch));
})
gate_chosen version generation batches batch stale side gate numbered within text (inr closed) =
    inl (record { numbered = numbered; within = within; gate = gate; closed = closed; stale = framed batch ++ 0 ∷ stale; text = text })

pub one_byte : (bytes : Bytes) → length bytes ≡ 1 → (b : ℕ) × (bytes ≡ b ∷ [])
one_byte [] long = absurd (omega (arith, long))
one_byte (b ∷ []) long = (b, refl)
one_byte (a ∷ b ∷ bytes) long = absurd (omega (arith, long))

-- a byte written at the gate
pub gate_written : (front behind old : Bytes) (gate b : ℕ) → old ≡ front ++ gate ∷ behind
    → write_over (length front) (b ∷ []) old ≡ front ++ b ∷ behind
gate_written front behind old gate b text =
    let inside : length front ≤ length old = omega (arith, ap length text, length-append front (gate ∷ behind)) in
    let kept : take (length front) old ≡ front = ap (λ (l : Bytes). take (length front) l) text ∙ take_at front (gate ∷ behind) (length front) refl in
    let rest : drop (length front + 1) old ≡ behind = ap (λ (l : Bytes). drop (length front + 1) l) (text
    ∙ sym (append_assoc front (gate ∷ []) behind)) ∙ drop_at (front ++ gate ∷ []) behind (length front + 1) (length-append front (gate ∷ [])) in
    write_over-within (length front) (b ∷ []) old inside ∙ ap (λ (l : Bytes). l ++ b ∷ [] ++ drop (length front + 1) old) kept
    ∙ ap (λ (l : Bytes). front ++ b ∷ [] ++ l) rest ∙ append_assoc front (b ∷ []) behind

-- a torn write of the gate leaves the batches without or with the one that is ready
pub torn_gate : (version generation : ℕ) (batches : List Bytes) (batch old new : Bytes) → IsReady version generation batches batch old
    → Torn (gate_place version generation batches) 1 old new → StandsWithin version generation batches batch new
torn_gate version generation batches batch old new ready torn =
    let front = front_text version generation batches in
    let behind = framed batch ++ 0 ∷ ready.stale in
    let inside : length front + 1 ≤ length old = omega (arith, ap length ready.text, length-append front (ready.gate ∷ behind)) in
    let other = torn_within (length front) 1 old new inside torn in
    let byte = one_byte other.0 other.1 in
    let text : new ≡ front ++ byte.0 ∷ behind = other.2 ∙ ap (λ (l : Bytes). write_over (length front) l old) byte.1
    ∙ gate_written front behind old ready.gate byte.0 ready.text in
    gate_chosen version generation batches batch ready.stale new byte.0 ready.numbered (omega (arith, torn.no_longer, ready.within, inside)) text
    (cases_eq byte.0 open_gate)

-- and one that was done leaves them with it
pub gate_opened : (version generation : ℕ) (batches : List Bytes) (batch old : Bytes) → IsReady version generation batches batch old
    → StandsFor version generation (with_batch batches batch) (write_over (gate_place version generation batches) (open_gate ∷ []) old)
gate_opened version generation batches batch old ready =
    let front = front_text version generation batches in
    let behind = framed batch ++ 0 ∷ ready.stale in
    let inside : length front + 1 ≤ length old = omega (arith, ap length ready.text, length-append front (ready.gate ∷ behind)) in
    record {
      numbered = ready.numbered;
      within = omega (arith, length-write_over (length front) (open_gate ∷ []) old, ready.within, inside);
      gate = 0;
      closed = omega arith;
      stale = ready.stale;
      text = gate_written front behind old ready.gate open_gate ready.text ∙ sym (append_assoc front (open_gate ∷ framed batch) (0 ∷ ready.stale))
          ∙ ap (λ (l : Bytes). l ++ 0 ∷ ready.stale) (sym (front_text-append version generation batches batch));
    }

-- a batch that is not empty is written
pub committed_some : (batches : List Bytes) (pending : Bytes) → (length pending ≡ 0 → ⊥) → committed batches pending ≡ with_batch batches pending
committed_some batches [] some = absurd (some refl)
committed_some batches (byte ∷ bytes) some = refl

-- the bytes of a batch were written behind the gate
pub is_ready : (version generation : ℕ) (batches : List Bytes) (batch : Bytes) (at gate : ℕ) (piece old : Bytes) → StandsFor version generation batches old
    → gate ≡ gate_place version generation batches → at ≡ gate + 1 → piece ≡ framed batch ++ 0 ∷ []
    → gate + 10 + length batch ≤ max_side → IsReady version generation batches batch (write_over at piece old)
is_ready version generation batches batch at gate piece old stands place behind is room =
    let here : at ≡ gate_place version generation batches + 1 = omega (arith, place, behind) in
    let same : write_over at piece old ≡ write_over (gate_place version generation batches + 1) (framed batch
    ++ 0 ∷ []) old = ap (λ (j : ℕ). write_over j piece old) here ∙ ap (λ (l : Bytes). write_over (gate_place version generation batches + 1) l old) is in
    subst (λ (l : Bytes). IsReady version generation batches batch l) (sym same)
    (written_behind version generation batches batch old stands (omega (arith, place, room)))

-- a new side is of the newest version, and may have any generation
pub new_heading : (generation : ℕ) → 1 ≤ generation → generation < 2 ^ 64 → IsHeading newest generation
new_heading generation least most =
    record { known = omega arith; latest = omega arith; least = least; most = most; followed = λ older. absurd (omega (arith, older)) }

-- the closed gate of a side without a batch
pub first_place : (version generation : ℕ) → 16 ≡ gate_place version generation []
first_place version generation = omega (arith, length-append (header version generation) [], length-number_bytes generation)
