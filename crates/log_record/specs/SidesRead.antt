-- Sides are read back.
use Rattle.std.proofs.Common.{arith, ◌≡◌, ◌≢◌, ℕ, ◌+◌, ◌^◌, ◌<◌, ◌≤◌, Bool, true, false, List, [], ◌∷◌, ◌++◌, length, Option, Some, None}
use Rattle.std.proofs.Common.{option_map, refl, ap, ◌∙◌, length-append, nat_le, nat_lt, if◌then◌else◌, ◌==◌, ne_eqb, le-leb}
use Rattle.std.proofs.lemmas.Nat.{from_be_bytes-to_be_bytes_8}
use Rattle.std.proofs.lemmas.Bool.{le-ltb, lt-ltb}
use Rattle.std.proofs.lemmas.Bool.Decides.{nat_tests}
use Rattle.byte_text.specs.Names.{Bytes}
use Rattle.world_data.specs.Worlds.{empty_world}
use Rattle.world_data.specs.declared.worlds.Change.{Change}
use Rattle.outside.specs.declared.sides.Side.{Side}
use Rattle.outside.specs.declared.sides.Side.TheVariants.{A, B}
use Rattle.outside.specs.Sides.{Sides, side_of}
use Rattle.log_record.specs.Folding.{folded}
use Rattle.log_record.specs.Batches.{number_bytes, open_gate, batches_in, all_changes, AreRecorded}
use Rattle.log_record.specs.Readings.{header, open_batches, side_over, gate_place, header_len, max_side, is_open, generation_of, header_fault}
use Rattle.log_record.specs.Readings.{is_unknown, is_misnumbered}
use Rattle.log_record.specs.Readings.{too_long, wrong_header, equal_generations, no_header, first_cause, cause_of, side_in_use, reading_of}
use Rattle.log_record.specs.Readings.{side_reading, reading_in_use, unless_damaged, reading, Reading, stands, IsOlder}
use Rattle.log_record.specs.Laws.{SidesStand, EmptyIsFresh}
use Rattle.log_sides.specs.Texts.{IsHeading, newest}
use Rattle.log_sides.specs.Torn.{length-number_bytes}
use Rattle.log_record.specs.BatchesRead.{batches_read}

side_open : (version generation gate : ℕ) (batches : List (List Change)) (stale : Bytes)
    → is_open (side_over version generation batches gate stale) ≡ true
side_open version generation gate batches stale =
    let bytes = side_over version generation batches gate stale in
    let long : nat_le 17 (length bytes) ≡ true = le-leb 17 (length bytes)
    (omega (
      arith,
      length-append (header version generation) (open_batches batches ++ gate ∷ stale),
      length-append (open_batches batches) (gate ∷ stale),
      length-number_bytes generation,
    )) in
    rw long refl

pub side_generation : (version generation gate : ℕ) (batches : List (List Change)) (stale : Bytes) → generation < 2 ^ 64
    → generation_of (side_over version generation batches gate stale) ≡ generation
unfolding number_bytes
side_generation version generation gate batches stale fits = from_be_bytes-to_be_bytes_8 generation fits

known : (version generation : ℕ) → IsHeading version generation → is_unknown version ≡ false
known version generation headed = by_known version headed.known headed.latest
  where
    by_known : (v : ℕ) → 1 ≤ v → v ≤ newest → is_unknown v ≡ false
    by_known v some late = grind (arith, nat_tests)

numbered : (version generation : ℕ) → IsHeading version generation → is_misnumbered version generation ≡ false
numbered version generation headed = by_number version generation headed.least headed.followed
  where
    by_number : (v g : ℕ) → 1 ≤ g → (v < newest → g + 1 < 2 ^ 64) → is_misnumbered v g ≡ false
    by_number v g some followed = grind (arith, nat_tests)

pub side_right : (version generation gate : ℕ) (batches : List (List Change)) (stale : Bytes) → IsHeading version generation
    → header_fault (side_over version generation batches gate stale) ≡ None
side_right version generation gate batches stale headed =
    ap (λ (g : ℕ). if is_unknown version then Some 4 else if is_misnumbered version g then Some 8 else None)
    (side_generation version generation gate batches stale headed.most)
    ∙ rw (known version generation headed, numbered version generation headed) refl

side_read : (side : Side) (version generation gate : ℕ) (batches : List (List Change)) (stale : Bytes) → gate ≢ open_gate → generation < 2 ^ 64
    → AreRecorded version batches
    → side_reading side (side_over version generation batches gate stale)
    ≡ stands (record {
      side = side;
      version = version;
      generation = generation;
      gate = gate_place batches;
      world = folded empty_world (all_changes batches);
    })
unfolding number_bytes
side_read side version generation gate batches stale closed fits are =
    ap (λ (g : ℕ). reading_of side version g (batches_in version header_len (open_batches batches ++ gate ∷ stale)))
    (side_generation version generation gate batches stale fits)
    ∙ ap (reading_of side version generation) (batches_read version header_len gate batches stale (ne_eqb gate open_gate closed) are)

-- the causes of damage, one by one

short : (s : Sides) (side : Side) → length (side_of s side) ≤ max_side → too_long s side ≡ None
short s side within = rw (le-ltb max_side (length (side_of s side)) within) refl

right : (s : Sides) (side : Side) (b : Bool) → is_open (side_of s side) ≡ b → (b ≡ true → header_fault (side_of s side) ≡ None)
    → wrong_header s side ≡ None
right s side true e fine = rw e (ap (option_map (λ place. (side, place))) (fine refl))
right s side false e fine = rw e refl

older_right : (s : Sides) (generation : ℕ) (side : Side) → IsOlder generation (side_of s side) → wrong_header s side ≡ None
older_right s generation side older = right s side (is_open (side_of s side)) refl (λ opened. (older opened).0)

newer_right : (s : Sides) (side : Side) → header_fault (side_of s side) ≡ None → wrong_header s side ≡ None
newer_right s side fine = right s side (is_open (side_of s side)) refl (λ opened. fine)

a_in_use : (s : Sides) (generation : ℕ) → is_open s.a ≡ true → generation_of s.a ≡ generation → IsOlder generation s.b → (b : Bool)
    → is_open s.b ≡ b → (equal_generations s ≡ None) × (side_in_use s ≡ Some A)
a_in_use s generation opened is older true other =
    let less = (older other).1 in
    let apart : (generation_of s.a == generation_of s.b) ≡ false = ne_eqb (generation_of s.a) (generation_of s.b) (λ e. omega (arith, e, is, less)) in
    let newer : nat_lt (generation_of s.b) (generation_of s.a) ≡ true = lt-ltb (generation_of s.b) (generation_of s.a) (omega (arith, is, less)) in
    (rw (opened, other, apart) refl, rw (opened, other, newer) refl)
a_in_use s generation opened is older false other = (rw (opened, other) refl, rw (opened, other) refl)

b_in_use : (s : Sides) (generation : ℕ) → is_open s.b ≡ true → generation_of s.b ≡ generation → IsOlder generation s.a → (b : Bool)
    → is_open s.a ≡ b → (equal_generations s ≡ None) × (side_in_use s ≡ Some B)
b_in_use s generation opened is older true other =
    let less = (older other).1 in
    let apart : (generation_of s.a == generation_of s.b) ≡ false = ne_eqb (generation_of s.a) (generation_of s.b) (λ e. omega (arith, e, is, less)) in
    let newer : nat_lt (generation_of s.b) (generation_of s.a) ≡ false = le-ltb (generation_of s.b) (generation_of s.a) (omega (arith, is, less)) in
    (rw (opened, other, apart) refl, rw (opened, other, newer) refl)
b_in_use s generation opened is older false other = (rw (opened, other) refl, rw (opened, other) refl)

a_has_header : (s : Sides) → is_open s.a ≡ true → no_header s ≡ None
a_has_header s opened = rw opened refl

b_has_header : (s : Sides) (b : Bool) → is_open s.a ≡ b → is_open s.b ≡ true → no_header s ≡ None
b_has_header s true other opened = rw other refl
b_has_header s false other opened = rw (other, opened) refl

no_cause : (s : Sides) → too_long s A ≡ None → too_long s B ≡ None → wrong_header s A ≡ None → wrong_header s B ≡ None
    → equal_generations s ≡ None → no_header s ≡ None → cause_of s ≡ None
no_cause s a b c d e f =
    ap (λ x. first_cause (x ∷ too_long s B ∷ wrong_header s A ∷ wrong_header s B ∷ equal_generations s ∷ no_header s ∷ [])) a
    ∙ ap (λ x. first_cause (x ∷ wrong_header s A ∷ wrong_header s B ∷ equal_generations s ∷ no_header s ∷ [])) b
    ∙ ap (λ x. first_cause (x ∷ wrong_header s B ∷ equal_generations s ∷ no_header s ∷ [])) c
    ∙ ap (λ x. first_cause (x ∷ equal_generations s ∷ no_header s ∷ [])) d
    ∙ ap (λ x. first_cause (x ∷ no_header s ∷ [])) e
    ∙ ap (λ x. first_cause (x ∷ [])) f

read_in_use : (s : Sides) (side : Side) (found : Reading) → cause_of s ≡ None → side_in_use s ≡ Some side
    → side_reading side (side_of s side) ≡ found → reading s ≡ found
unfolding reading
read_in_use s side found none used is =
    ap (λ (c : Option (Side × ℕ)). unless_damaged c (reading_in_use s (side_in_use s))) none ∙ ap (reading_in_use s) used ∙ is

pub sides_stand : SidesStand
sides_stand s A version generation gate batches stale is closed headed are a_short b_short older =
    let opened : is_open s.a ≡ true = ap is_open is ∙ side_open version generation gate batches stale in
    let gen : generation_of s.a ≡ generation = ap generation_of is ∙ side_generation version generation gate batches stale headed.most in
    let used = a_in_use s generation opened gen older (is_open s.b) refl in
    let right = newer_right s A (ap header_fault is ∙ side_right version generation gate batches stale headed) in
    read_in_use s A _
    (no_cause s (short s A a_short) (short s B b_short) right (older_right s generation B older) used.0 (a_has_header s opened))
    used.1 (ap (side_reading A) is ∙ side_read A version generation gate batches stale closed headed.most are)
sides_stand s B version generation gate batches stale is closed headed are a_short b_short older =
    let opened : is_open s.b ≡ true = ap is_open is ∙ side_open version generation gate batches stale in
    let gen : generation_of s.b ≡ generation = ap generation_of is ∙ side_generation version generation gate batches stale headed.most in
    let used = b_in_use s generation opened gen older (is_open s.a) refl in
    let right = newer_right s B (ap header_fault is ∙ side_right version generation gate batches stale headed) in
    read_in_use s B _
    (no_cause s (short s A a_short) (short s B b_short) (older_right s generation A older) right used.0
    (b_has_header s (is_open s.a) refl opened))
    used.1 (ap (side_reading B) is ∙ side_read B version generation gate batches stale closed headed.most are)

-- a disk without a log

none_in_use : (s : Sides) → is_open s.a ≡ false → s.b ≡ [] → length s.a ≤ max_side → (cause_of s ≡ None) × (side_in_use s ≡ None)
none_in_use s closed empty within =
    let b_closed : is_open s.b ≡ false = ap is_open empty in
    let no_byte : nat_lt 0 (length s.b) ≡ false = ap (λ (l : Bytes). nat_lt 0 (length l)) empty in (
      no_cause s (short s A within) (short s B (omega (arith, ap length empty))) (right s A false closed (λ e. absurd (cc e)))
          (right s B false b_closed (λ e. absurd (cc e))) (rw closed refl) (rw (closed, b_closed, no_byte) refl),
      rw (closed, b_closed) refl,
    )

pub empty_is_fresh : EmptyIsFresh
unfolding reading
empty_is_fresh s closed empty within =
    let none = none_in_use s closed empty within in
    ap (λ (c : Option (Side × ℕ)). unless_damaged c (reading_in_use s (side_in_use s))) none.0 ∙ ap (reading_in_use s) none.1
