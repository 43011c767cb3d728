-- The changes of the records that the sides of a log hold.
use Rattle.std.proofs.Common.{◌≡◌, ◌≢◌, ◌∙◌, ◌≤◌, List, [], length, flat_map, drop, Option, Some, None, Result, Ok, Err, refl, sym, ap, inl, inr}
use Rattle.std.proofs.Common.{ne_eqb, ℕ}
use Rattle.byte_text.specs.Names.{Bytes}
use Rattle.outside.specs.declared.sides.Side.{Side}
use Rattle.outside.specs.declared.sides.Side.TheVariants.{A, B}
use Rattle.outside.specs.Sides.{Sides, side_of, other_side}
use Rattle.world_data.specs.Worlds.{empty_world}
use Rattle.world_data.specs.declared.worlds.Change.{Change}
use Rattle.log_record.specs.Folding.{folded}
use Rattle.append_log.specs.Logs.{StandsIn}
use Rattle.journal.specs.Logs.{HoldsLog}
use Rattle.journal.specs.Openings.{AreWhole}
use Rattle.log_record.specs.Batches.{number_bytes, open_gate, Batches, batches_in, all_changes, AreRecorded}
use Rattle.log_record.specs.BatchesRead.{batches_read}
use Rattle.log_record.specs.Readings.{Standing, fresh, stands, header_len, max_side, gate_place, reading, reading_in_use, reading_of, side_in_use}
use Rattle.log_record.specs.Readings.{side_over, unless_damaged, cause_of}
use Rattle.log_record.specs.Readings.{version_of, generation_of}
use Rattle.log_record.specs.SidesRead.{sides_stand}
use Rattle.log_record.specs.Standing.{InUse, IsInUse, StandsBy, world_of}
use Rattle.world_recovery.specs.Recorded.{record_fault, changes_in}
use Rattle.world_recovery.specs.BatchesHeld.{are_recorded, fresh_read, front_short, in_use, same_changes, stands_by}

abbrev pub changes_read : {E : Type 0} → Result Batches E → List Change
changes_read (Ok batches) = batches.changes
changes_read (Err place) = []

abbrev pub records_of : Sides → Option Side → List Change
records_of s None = []
records_of s (Some side) = let bytes = side_of s side in changes_read (batches_in (version_of bytes) header_len (drop header_len bytes))

-- the changes of the records of the side in use, in its version and in order; none where no log was begun
unfoldable pub records : Sides → List Change
records s = records_of s (side_in_use s)

-- which side a reading found in use

by_batches : (side : Side) (version generation : ℕ) (read : Result Batches ℕ) (st : Standing) → reading_of side version generation read ≡ stands st
    → Some side ≡ Some st.side
by_batches side version generation (Ok batches) st e =
    let found : Standing = record {
      side = side;
      version = version;
      generation = generation;
      gate = batches.gate;
      world = folded empty_world batches.changes;
    } in
    let same : found ≡ st = cc e in
    ap (λ (t : Standing). Some t.side) same
by_batches side version generation (Err place) st e = absurd (cc e)

-- what is read of a side
abbrev read_of : Bytes → Result Batches ℕ
read_of bytes = batches_in (version_of bytes) header_len (drop header_len bytes)

by_cause : (s : Sides) (cause : Option (Side × ℕ)) (used : Option Side) (st : Standing)
    → unless_damaged cause (reading_in_use s used) ≡ stands st → used ≡ Some st.side
by_cause s (Some cause) used st e = absurd (cc e)
by_cause s None None st e = absurd (cc e)
by_cause s None (Some side) st e =
    let bytes = side_of s side in
    by_batches side (version_of bytes) (generation_of bytes) (read_of bytes) st e

used_side : (s : Sides) (st : Standing) → reading s ≡ stands st → side_in_use s ≡ Some st.side
unfolding reading
used_side s st e = by_cause s (cause_of s) (side_in_use s) st e

no_batches : (side : Side) (version generation : ℕ) (read : Result Batches ℕ) → reading_of side version generation read ≡ fresh → ⊥
no_batches side version generation (Ok batches) e = absurd (cc e)
no_batches side version generation (Err place) e = absurd (cc e)

no_cause : (s : Sides) (cause : Option (Side × ℕ)) (used : Option Side) → unless_damaged cause (reading_in_use s used) ≡ fresh → used ≡ None
no_cause s (Some cause) used e = absurd (cc e)
no_cause s None None e = refl
no_cause s None (Some side) e =
    let bytes = side_of s side in
    absurd (no_batches side (version_of bytes) (generation_of bytes) (read_of bytes) e)

no_side : (s : Sides) → reading s ≡ fresh → side_in_use s ≡ None
unfolding reading
no_side s e = no_cause s (cause_of s) (side_in_use s) e

-- a log that stands

both_short : (s : Sides) (side : Side) → length (side_of s side) ≤ max_side → length (side_of s (other_side side)) ≤ max_side
    → (length s.a ≤ max_side) × (length s.b ≤ max_side)
both_short s A here there = (here, there)
both_short s B here there = (there, here)

stood_side : (u : InUse) (s : Sides) → IsInUse u → StandsBy u s → side_in_use s ≡ Some u.side
stood_side u s is by =
    let short = both_short s u.side by.here by.there in
    let found : Standing = record {
      side = u.side;
      version = u.version;
      generation = u.generation;
      gate = gate_place u.batches;
      world = world_of u;
    } in
    used_side s found
    (sides_stand s u.side u.version u.generation by.gate u.batches by.stale by.text by.closed is.headed is.recorded short.0 short.1 by.older)

over_read : (version generation gate : ℕ) (batches : List (List Change)) (stale : Bytes) → gate ≢ open_gate → AreRecorded version batches
    → changes_read (read_of (side_over version generation batches gate stale)) ≡ all_changes batches
unfolding number_bytes
over_read version generation gate batches stale closed are =
    ap changes_read (batches_read version header_len gate batches stale (ne_eqb gate open_gate closed) are)

stood_records : (u : InUse) (s : Sides) → IsInUse u → StandsBy u s → records s ≡ all_changes u.batches
unfolding records
stood_records u s is by =
    ap (records_of s) (stood_side u s is by)
    ∙ ap (λ (l : Bytes). changes_read (read_of l)) by.text
    ∙ over_read u.version u.generation by.gate u.batches by.stale by.closed is.recorded

used_records : (s : Sides) (side : Side) (v g : ℕ) (batches : List Bytes) → StandsIn s side v g batches → AreWhole (record_fault v) batches
    → records s ≡ flat_map (changes_in v) batches
used_records s side v g batches here whole =
    stood_records (in_use side v g batches) s
    (record { headed = here.stands.numbered; recorded = are_recorded v batches (front_short s side v g batches here) whole })
    (stands_by s side v g batches here whole)
    ∙ same_changes v batches

fresh_records : (s : Sides) → reading s ≡ fresh → records s ≡ []
unfolding records
fresh_records s e = ap (records_of s) (no_side s e)

-- the records of sides that hold batches of a version are those of the batches
pub held_records : (v : ℕ) (batches : List Bytes) (s : Sides) → AreWhole (record_fault v) batches → HoldsLog v batches s
    → records s ≡ flat_map (changes_in v) batches
held_records v batches s whole (inl (side, g, here)) = used_records s side v g batches here whole
held_records v batches s whole (inr (no_log, new, none)) = fresh_records s (fresh_read s no_log) ∙ ap (flat_map (changes_in v)) (sym none)
