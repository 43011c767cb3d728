-- What is read as batches is their text.
use Rattle.std.proofs.Common.{arith, ◌≡◌, ◌≢◌, ℕ, zero, suc, ◌+◌, ◌^◌, ◌<◌, ◌≤◌, Bool, true, false, List, [], ◌∷◌, ◌++◌, length, take, drop, get_or}
use Rattle.std.proofs.Common.{Result, Ok, Err, refl, sym, ap, subst, ◌∙◌, nat_le, if◌then◌else◌, ◌==◌, eqb-true, leb-true, append_assoc}
use Rattle.std.proofs.Common.{length-append, length-take, length-drop, take-append-drop}
use Rattle.std.specs.List.{AllByRecursion}
use Rattle.std.proofs.lemmas.List.{drop-drop}
use Rattle.std.proofs.lemmas.Nat.{be_bytes_8}
use Rattle.byte_text.specs.Names.{Bytes}
use Rattle.world_data.specs.declared.worlds.Change.{Change}
use Rattle.log_record.specs.Versions.{IsRecordedIn}
use Rattle.log_record.specs.Batches.{AreBytes, number_bytes, number_of, records_text, batch_text, open_gate, records_in, Batches, with_changes}
use Rattle.log_record.specs.Batches.{batch_behind, first_batches, batches_in, all_changes, AreRecorded}
use Rattle.log_record.specs.Readings.{open_batches}
use Rattle.log_sides.specs.Torn.{length-number_bytes}
use Rattle.log_record.specs.RecordsFound.{records_found}

pub all_take : (n : ℕ) (bytes : Bytes) → AreBytes bytes → AreBytes (take n bytes)
all_take zero bytes are = tt
all_take (suc n) [] are = tt
all_take (suc n) (b ∷ bytes) are = (are.0, all_take n bytes are.1)

pub all_drop : (n : ℕ) (bytes : Bytes) → AreBytes bytes → AreBytes (drop n bytes)
all_drop zero bytes are = are
all_drop (suc n) [] are = tt
all_drop (suc n) (b ∷ bytes) are = all_drop n bytes are.1

pub all_get : (bytes : Bytes) → AreBytes bytes → (i : ℕ) → get_or bytes i 0 < 256
all_get [] are zero = omega arith
all_get [] are (suc i) = omega arith
all_get (b ∷ bytes) are zero = are.0
all_get (b ∷ bytes) are (suc i) = all_get bytes are.1 i

-- a number that is read is the text of its value
pub number_found : (bytes : Bytes) → length bytes ≡ 8 → AreBytes bytes → number_bytes (number_of bytes) ≡ bytes
unfolding number_bytes
number_found bytes long are = be_bytes_8 bytes (number_of bytes) long (all_get bytes are) refl

pub record Found (v at : ℕ) (bytes : Bytes) (b : Batches) : Type 0 where
  pub batches : List (List Change)
  pub gate : ℕ
  pub stale : Bytes
  pub text : bytes ≡ open_batches batches ++ gate ∷ stale
  pub closed : gate ≢ open_gate
  pub recorded : AreRecorded v batches
  pub changes : b.changes ≡ all_changes batches
  pub place : b.gate ≡ at + length (open_batches batches)

abbrev fine : Batches → Result Batches ℕ
fine b = Ok b

ok_is : (b c : Batches) → fine b ≡ fine c → b ≡ c
ok_is b c e = cc e

err_not : (at : ℕ) (b : Batches) → Err at ≡ fine b → ⊥
err_not at b e = cc e

-- behind an open gate: the batch's text, and more batches
abbrev Behind : ℕ → ℕ → Bytes → Batches → Type 0
Behind v at bytes b = Found v at (open_gate ∷ bytes) b

with_commas : (v at : ℕ) (bytes : Bytes) (changes : List Change) (b others : Batches) → AreBytes bytes → length bytes < 2 ^ 64
    → 8 + number_of (take 8 bytes) ≤ length bytes
    → AllByRecursion (IsRecordedIn v) changes × (take (number_of (take 8 bytes)) (drop 8 bytes) ≡ records_text changes)
    → Found v (at + 9 + number_of (take 8 bytes)) (drop (8 + number_of (take 8 bytes)) bytes) others
    → record { changes = changes ++ others.changes; gate = others.gate } ≡ b → Behind v at bytes b
with_commas v at bytes changes b others are small within records rest is =
    let n = number_of (take 8 bytes) in
    let number : number_bytes n ≡ take 8 bytes = number_found (take 8 bytes) (omega (arith, length-take 8 bytes, within)) (all_take 8 bytes are) in
    let size : n ≡ length (records_text changes) = omega (arith, ap length records.1, length-take n (drop 8 bytes), length-drop 8 bytes, within) in
    let text : bytes ≡ batch_text changes ++ drop (8 + n) bytes =
    sym (take-append-drop 8 bytes) ∙ ap (λ (l : Bytes). l ++ drop 8 bytes) (sym number) ∙ ap (λ (k : ℕ). number_bytes k ++ drop 8 bytes) size
    ∙ ap (λ (l : Bytes). number_bytes (length (records_text changes)) ++ l)
    (sym (take-append-drop n (drop 8 bytes)) ∙ ap (λ (l : Bytes). l ++ drop n (drop 8 bytes)) records.1
    ∙ ap (λ (l : Bytes). records_text changes ++ l) (drop-drop n 8 bytes))
    ∙ sym (append_assoc (number_bytes (length (records_text changes))) (records_text changes) (drop (8 + n) bytes)) in
    record {
      batches = changes ∷ rest.batches;
      gate = rest.gate;
      stale = rest.stale;
      text = ap (λ (l : Bytes). open_gate ∷ l) (text ∙ ap (λ (l : Bytes). batch_text changes ++ l) rest.text)
          ∙ sym (append_assoc (open_gate ∷ batch_text changes) (open_batches rest.batches) (rest.gate ∷ rest.stale));
      closed = rest.closed;
      recorded = ((records.0, omega (arith, size, small, within)), rest.recorded);
      changes = ap (λ (c : Batches). c.changes) (sym is) ∙ ap (λ (l : List Change). changes ++ l) rest.changes;
      place = omega (
        arith,
        ap (λ (c : Batches). c.gate) is,
        rest.place,
        size,
        length-append (open_gate ∷ batch_text changes) (open_batches rest.batches),
        length-append (number_bytes (length (records_text changes))) (records_text changes),
        length-number_bytes (length (records_text changes)),
      );
    }

-- the steps of reading
abbrev Next : ℕ → (ℕ → Bytes → Result Batches ℕ) → Type 0
Next v next = (k : ℕ) (rest : Bytes) (c : Batches) → AreBytes rest → length rest < 2 ^ 64 → next k rest ≡ Ok c → Found v k rest c

by_others : (v at : ℕ) (bytes : Bytes) (changes : List Change) (b : Batches) (r : Result Batches ℕ) → AreBytes bytes → length bytes < 2 ^ 64
    → 8 + number_of (take 8 bytes) ≤ length bytes
    → AllByRecursion (IsRecordedIn v) changes × (take (number_of (take 8 bytes)) (drop 8 bytes) ≡ records_text changes)
    → ((c : Batches) → r ≡ Ok c → Found v (at + 9 + number_of (take 8 bytes)) (drop (8 + number_of (take 8 bytes)) bytes) c)
    → with_changes (Ok changes) r ≡ Ok b → Behind v at bytes b
by_others v at bytes changes b (Ok c) are small within records ih e =
    with_commas v at bytes changes b c are small within records (ih c refl) (ok_is (record { changes = changes ++ c.changes; gate = c.gate }) b e)
by_others v at bytes changes b (Err k) are small within records ih e = absurd (err_not k b e)

by_records : (v at : ℕ) (bytes : Bytes) (b : Batches) (r : Result (List Change) ℕ) (others : Result Batches ℕ) → AreBytes bytes
    → length bytes < 2 ^ 64 → 8 + number_of (take 8 bytes) ≤ length bytes
    → records_in v (at + 9) (take (number_of (take 8 bytes)) (drop 8 bytes)) ≡ r
    → ((c : Batches) → others ≡ Ok c → Found v (at + 9 + number_of (take 8 bytes)) (drop (8 + number_of (take 8 bytes)) bytes) c)
    → with_changes r others ≡ Ok b → Behind v at bytes b
by_records v at bytes b (Err k) others are small within read ih e = absurd (err_not k b e)
by_records v at bytes b (Ok changes) others are small within read ih e =
    by_others v at bytes changes b others are small within (records_found v (at + 9) (take (number_of (take 8 bytes)) (drop 8 bytes)) changes read) ih e

by_length : (v at : ℕ) (bytes : Bytes) (b : Batches) (next : ℕ → Bytes → Result Batches ℕ) (t : Bool) → AreBytes bytes → length bytes < 2 ^ 64
    → nat_le (8 + number_of (take 8 bytes)) (length bytes) ≡ t → Next v next
    → (if t then with_changes (records_in v (at + 9) (take (number_of (take 8 bytes)) (drop 8 bytes)))
    (next (at + 9 + number_of (take 8 bytes)) (drop (8 + number_of (take 8 bytes)) bytes)) else Err (at + 1)) ≡ Ok b
    → Behind v at bytes b
by_length v at bytes b next true are small test ih e =
    let n = number_of (take 8 bytes) in
    by_records v at bytes b (records_in v (at + 9) (take n (drop 8 bytes))) (next (at + 9 + n) (drop (8 + n) bytes)) are small
    (leb-true (8 + n) (length bytes) test) refl
    (λ c is. ih (at + 9 + n) (drop (8 + n) bytes) c (all_drop (8 + n) bytes are) (omega (arith, small, length-drop (8 + n) bytes)) is) e
by_length v at bytes b next false are small test ih e = absurd (err_not (at + 1) b e)

by_gate : (v at gate : ℕ) (bytes : Bytes) (b : Batches) (next : ℕ → Bytes → Result Batches ℕ) (t : Bool) → AreBytes bytes → length bytes < 2 ^ 64
    → (gate == open_gate) ≡ t → Next v next
    → (if t then batch_behind v at bytes next else Ok (record { changes = []; gate = at })) ≡ Ok b → Found v at (gate ∷ bytes) b
by_gate v at gate bytes b next true are small test ih e =
    subst (λ (g : ℕ). Found v at (g ∷ bytes) b) (sym (eqb-true gate open_gate test))
    (by_length v at bytes b next (nat_le (8 + number_of (take 8 bytes)) (length bytes)) are small refl ih e)
by_gate v at gate bytes b next false are small test ih e = let is = ok_is (record { changes = []; gate = at }) b e in record {
  batches = [];
  gate = gate;
  stale = bytes;
  text = refl;
  closed = λ same. absurd (cc (test, ap (λ (k : ℕ). k == open_gate) same));
  recorded = tt;
  changes = ap (λ (c : Batches). c.changes) (sym is);
  place = omega (arith, ap (λ (c : Batches). c.gate) is);
}

first_found : (v n : ℕ) → Next v (first_batches v n)
first_found v zero k rest c are small e = absurd (err_not k c e)
first_found v (suc n) k [] c are small e = absurd (err_not k c e)
first_found v (suc n) k (gate ∷ bytes) c are small e =
    by_gate v k gate bytes c (first_batches v n) (gate == open_gate) are.1 (omega (arith, small)) refl (first_found v n) e

pub batches_found : (v at : ℕ) (bytes : Bytes) (b : Batches) → AreBytes bytes → length bytes < 2 ^ 64 → batches_in v at bytes ≡ Ok b
    → Found v at bytes b
unfolding batches_in
batches_found v at bytes b are small e = first_found v (length bytes + 1) at bytes b are small e
