-- What writes on a side that is being made leave of it.
use Rattle.std.proofs.Common.{◌≡◌, ◌≢◌, ◌⊎◌, ◌+◌, ◌≤◌, ◌∙◌, ◌==◌, ℕ, zero, suc, true, false, not, [], ◌∷◌, ◌++◌, length, take, slice_index, refl, sym}
use Rattle.std.proofs.Common.{ap, inl, inr, arith, length-append, append-nil}
use Rattle.std.proofs.lemmas.Bool.{cases_eq}
use Rattle.std.proofs.lemmas.Bool.Decides.{eqb_tells}
use Rattle.std.specs.Prelude.{eqb}
use Rattle.outside.specs.Disks.{write_over, Torn}
use Rattle.outside.specs.WriteLaws.{write_over-end, torn_within}
use Rattle.byte_text.specs.Names.{Bytes}
use Rattle.log_sides.specs.Texts.{StandsFor, IsHeading, open_gate, header, newest, max_side}
use Rattle.log_sides.specs.Making.{is_shut, IsShut, IsNotOpen, IsBare, IsMade, WhileShut, WhileMade, head_text}
use Rattle.log_sides.specs.Torn.{one_byte, gate_written, length-number_bytes}

-- a closed gate
pub shut_closed : (side : Bytes) → IsShut side → IsNotOpen side
shut_closed side shut = record { shut = λ open_. shut.closed (ap (λ (l : Bytes). slice_index l 0) (sym shut.is) ∙ open_.gate); short = shut.short }

gate_is_open : (gate : ℕ) → not (gate == open_gate) ≡ false → gate ≡ open_gate
gate_is_open gate unshut = by_test (eqb_tells gate open_gate)
  where
    by_test : ((eqb gate open_gate ≡ true) × (gate ≡ open_gate)) ⊎ ((eqb gate open_gate ≡ false) × (gate ≢ open_gate)) → gate ≡ open_gate
    by_test (inl same) = same.1
    by_test (inr differ) = absurd (let clash : true ≡ false = sym (ap not differ.0) ∙ unshut in cc)

-- a torn write of an open gate, or of the first byte
pub gate_torn : (before side : Bytes) → length before ≤ max_side → is_shut before ≡ false → Torn 0 1 before side → WhileShut before side
gate_torn [] side short unshut torn =
    inr (record { shut = λ open_. omega (arith, torn.no_longer, open_.long); short = omega (arith, torn.no_longer) })
gate_torn (gate ∷ rest) side short unshut torn =
    let other = torn_within 0 1 (gate ∷ rest) side (omega arith) torn in
    let byte = one_byte other.0 other.1 in
    let text : side ≡ byte.0 ∷ rest = other.2 ∙ ap (λ (l : Bytes). write_over 0 l (gate ∷ rest)) byte.1
    ∙ gate_written [] rest (gate ∷ rest) gate byte.0 refl in
    by_gate byte.0 text (cases_eq byte.0 open_gate)
  where
    opened : gate ≡ open_gate
    opened = gate_is_open gate unshut

    by_gate : (b : ℕ) → side ≡ b ∷ rest → (b ≡ open_gate) ⊎ (b ≢ open_gate) → WhileShut (gate ∷ rest) side
    by_gate b text (inl same) = inl (text ∙ ap (λ (j : ℕ). j ∷ rest) (same ∙ sym opened))
    by_gate b text (inr closed) = inr
        (shut_closed side (record { gate = b; closed = closed; rest = rest; is = text; short = omega (arith, torn.no_longer, short) }))

-- a torn write behind a closed gate
pub shut_torn : (at n : ℕ) (old new : Bytes) → 1 ≤ at → at + n ≤ max_side → IsShut old → Torn at n old new → IsShut new
shut_torn zero n old new behind fits shut torn = absurd (omega (arith, behind))
shut_torn (suc at) n old [] behind fits shut torn = absurd (omega (arith, torn.no_shorter, ap length shut.is))
shut_torn (suc at) n old (b ∷ bytes) behind fits shut torn =
    let front : take (suc at) old ≡ shut.gate ∷ take at shut.rest = ap (λ (l : Bytes). take (suc at) l) shut.is in
    let same : shut.gate ∷ take at shut.rest ≡ b ∷ take (length (take at shut.rest)) bytes = sym front ∙ torn.before
    ∙ ap (λ (j : ℕ). take j (b ∷ bytes)) (ap length front) in
    record {
      gate = b;
      closed = λ opened. shut.closed (let e : shut.gate ≡ b = cc in e
          ∙ opened);
      rest = bytes;
      is = refl;
      short = omega (arith, torn.no_longer, shut.short, fits);
    }

-- the header was written behind the gate
pub head_written : (generation : ℕ) (piece old : Bytes) → piece ≡ head_text generation → IsBare old → IsMade generation (write_over 1 piece old)
head_written generation piece old is bare = record {
  gate = bare.gate;
  closed = bare.closed;
  is = ap (λ (l : Bytes). write_over 1 piece l) bare.is ∙ write_over-end piece (bare.gate ∷ []) ∙ ap (λ (l : Bytes). bare.gate ∷ l) is;
}

pub length-head : (generation : ℕ) → length (head_text generation) ≡ 16
length-head generation = omega (arith, length-append (header newest generation) (0 ∷ []), length-number_bytes generation)

-- the gate was opened, whole or torn
pub made_opened : (generation : ℕ) (side : Bytes) (b : ℕ) → IsHeading newest generation → b ≡ open_gate → side ≡ b ∷ head_text generation
    → StandsFor newest generation [] side
made_opened generation side b numbered opened text = record {
  numbered = numbered;
  within = omega (arith, ap length text, length-head generation);
  gate = 0;
  closed = omega arith;
  stale = [];
  text = text ∙ ap (λ (j : ℕ). j ∷ head_text generation) opened
      ∙ ap (λ (l : Bytes). open_gate ∷ (l ++ 0 ∷ [])) (sym (append-nil (header newest generation)));
}

pub made_written : (generation : ℕ) (old : Bytes) → IsHeading newest generation → IsMade generation old
    → StandsFor newest generation [] (write_over 0 (1 ∷ []) old)
made_written generation old numbered made =
    made_opened generation (write_over 0 (1 ∷ []) old) 1 numbered refl (gate_written [] (head_text generation) old made.gate 1 made.is)

pub made_torn : (generation : ℕ) (before old new : Bytes) → IsHeading newest generation → IsMade generation old → Torn 0 1 old new
    → WhileMade generation before new
made_torn generation before old new numbered made torn =
    let other = torn_within 0 1 old new (omega (arith, ap length made.is)) torn in
    let byte = one_byte other.0 other.1 in
    let text : new ≡ byte.0 ∷ head_text generation = other.2 ∙ ap (λ (l : Bytes). write_over 0 l old) byte.1
    ∙ gate_written [] (head_text generation) old made.gate byte.0 made.is in
    by_gate byte.0 text (cases_eq byte.0 open_gate)
  where
    by_gate : (b : ℕ) → new ≡ b ∷ head_text generation → (b ≡ open_gate) ⊎ (b ≢ open_gate) → WhileMade generation before new
    by_gate b text (inl opened) = inr (made_opened generation new b numbered opened text)
    by_gate b text (inr closed) = inl
        (inr (shut_closed new (record {
          gate = b;
          closed = closed;
          rest = head_text generation;
          is = text;
          short =
              omega (arith, ap length text, length-head generation);
        })))

pub shut_while : (before side : Bytes) → IsShut side → WhileShut before side
shut_while before side shut = inr (shut_closed side shut)
