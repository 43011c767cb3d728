-- Sides that hold batches of records are recovered as the world of their changes.
use Rattle.std.proofs.Common.{◌≡◌, ◌∙◌, ◌<◌, ◌^◌, ℕ, List, [], ◌∷◌, ◌++◌, length, map, flat_map, None, Result, Ok, Err, refl, sym, ap, subst, inl}
use Rattle.std.proofs.Common.{inr, arith, append_assoc, append-nil, length-append}
use Rattle.std.specs.List.{AllByRecursion}
use Rattle.byte_text.specs.Names.{Bytes}
use Rattle.world_data.specs.Worlds.{empty_world}
use Rattle.world_data.specs.declared.worlds.World.{World}
use Rattle.world_data.specs.declared.worlds.Change.{Change}
use Rattle.outside.specs.declared.sides.Side.{Side}
use Rattle.outside.specs.Sides.{Sides, side_of, other_side}
use Rattle.log_sides.specs.Texts.{open_gate, header, framed, batches_text, front_text, committed}
use Rattle.log_sides.specs.Torn.{length-framed}
use Rattle.append_log.specs.Heads.{head_of}
use Rattle.append_log.specs.Logs.{StandsIn, IsFresh}
use Rattle.append_log.specs.declared.side_heads.Head.{Head}
use Rattle.journal.specs.Logs.{HoldsLog, HoldsEither}
use Rattle.journal.specs.Openings.{AreWhole}
use Rattle.journal.specs.Standing.{behind_short}
use Rattle.journal.specs.Starts.{beside_used, fresh_is, fresh_short}
use Rattle.log_record.specs.Versions.{IsRecordedIn}
use Rattle.log_record.specs.Folding.{folded}
use Rattle.log_record.specs.Batches.{records_text, records_in, all_changes, AreRecorded}
use Rattle.log_record.specs.EventWriteLaws.{folded-append}
use Rattle.log_record.specs.BatchesRead.{records_read}
use Rattle.log_record.specs.RecordsFound.{records_found}
use Rattle.log_record.specs.Readings.{fresh, open_batches, reading}
use Rattle.log_record.specs.SidesRead.{empty_is_fresh}
use Rattle.log_record.specs.Recovery.{Recovers, RecoversEither, world_read}
use Rattle.log_record.specs.Standing.{InUse, StandsBy}
use Rattle.log_record.specs.StandingLaws.{stood_recovers}
use Rattle.world_recovery.specs.Recorded.{fault_of, changes_of, record_fault, changes_in, world_in}
use Rattle.world_recovery.specs.HeadsRead.{Says, head_says, behind_older}

-- a whole batch is the records of its changes
pub read_whole : (read : Result (List Change) ℕ) → fault_of read ≡ None → read ≡ Ok (changes_of read)
read_whole (Ok changes) whole = refl
read_whole (Err at) whole = absurd (cc whole)

whole_found : (v : ℕ) (batch : Bytes) → record_fault v batch ≡ None
    → AllByRecursion (IsRecordedIn v) (changes_in v batch) × (batch ≡ records_text (changes_in v batch))
whole_found v batch whole = records_found v 0 batch (changes_in v batch) (read_whole (records_in v 0 batch) whole)

pub are_recorded : (v : ℕ) (batches : List Bytes) → length (batches_text batches) < 2 ^ 64 → AreWhole (record_fault v) batches
    → AreRecorded v (map (changes_in v) batches)
are_recorded v [] short whole = tt
are_recorded v (batch ∷ batches) short whole =
    let found = whole_found v batch whole.0 in
    let long = length-append (framed batch) (batches_text batches) in (
      (found.0, omega (arith, short, long, length-framed batch, ap length found.1)),
      are_recorded v batches (omega (arith, short, long)) whole.1,
    )

same_text : (v : ℕ) (batches : List Bytes) → AreWhole (record_fault v) batches → open_batches (map (changes_in v) batches) ≡ batches_text batches
same_text v [] whole = refl
same_text v (batch ∷ batches) whole =
    ap (λ (l : Bytes). open_gate ∷ (framed l ++ open_batches (map (changes_in v) batches))) (sym (whole_found v batch whole.0).1)
    ∙ ap (λ (l : Bytes). open_gate ∷ (framed batch ++ l)) (same_text v batches whole.1)

pub same_changes : (v : ℕ) (batches : List Bytes) → all_changes (map (changes_in v) batches) ≡ flat_map (changes_in v) batches
same_changes v [] = refl
same_changes v (batch ∷ batches) = ap (λ (l : List Change). changes_in v batch ++ l) (same_changes v batches)

-- a side in use
abbrev pub in_use : Side → ℕ → ℕ → List Bytes → InUse
in_use side version generation batches =
    record { side = side; version = version; generation = generation; batches = map (changes_in version) batches }

pub front_short : (s : Sides) (side : Side) (v g : ℕ) (batches : List Bytes) → StandsIn s side v g batches → length (batches_text batches) < 2 ^ 64
front_short s side v g batches stands =
    let is = stands.stands in
    omega (
      arith,
      is.within,
      ap length is.text,
      length-append (front_text v g batches) (is.gate ∷ is.stale),
      length-append (header v g) (batches_text batches),
    )

pub stands_by : (s : Sides) (side : Side) (v g : ℕ) (batches : List Bytes) → StandsIn s side v g batches → AreWhole (record_fault v) batches
    → StandsBy (in_use side v g batches) s
stands_by s side v g batches stands whole =
    let is = stands.stands in
    let behind = beside_used s side v g (length (side_of s side)) stands.used in
    let there = side_of s (other_side side) in
    record {
      gate = is.gate;
      stale = is.stale;
      text = is.text ∙ ap (λ (l : Bytes). open_gate ∷ l) (append_assoc (header v g) (batches_text batches) (is.gate ∷ is.stale))
          ∙ ap (λ (l : Bytes). open_gate ∷ (header v g ++ (l ++ is.gate ∷ is.stale))) (sym (same_text v batches whole));
      closed = is.closed;
      older = behind_older g there behind;
      here = is.within;
      there = behind_short g there behind;
    }

used_recovers : (s : Sides) (side : Side) (v g : ℕ) (batches : List Bytes) → StandsIn s side v g batches → AreWhole (record_fault v) batches
    → Recovers s (world_in v batches)
used_recovers s side v g batches stands whole =
    subst (λ (l : List Change). Recovers s (folded empty_world l)) (same_changes v batches)
    (stood_recovers (in_use side v g batches) s
    (record { headed = stands.stands.numbered; recorded = are_recorded v batches (front_short s side v g batches stands) whole })
    (stands_by s side v g batches stands whole))

-- no log was begun
no_bytes : (bytes : Bytes) → 0 ≡ length bytes → bytes ≡ []
no_bytes [] none = refl
no_bytes (b ∷ bytes) none = absurd (omega (arith, none))

pub fresh_read : (s : Sides) → IsFresh s → reading s ≡ fresh
fresh_read s no_log =
    let heads = fresh_is (head_of s.a) (head_of s.b) no_log in
    let a = subst (λ (h : Head). Says s.a h) heads.1 (head_says s.a) in
    let b = subst (λ (h : Head). Says s.b h) heads.2 (head_says s.b) in
    empty_is_fresh s a.1 (no_bytes s.b b.2) (fresh_short s no_log)

fresh_recovers : (s : Sides) → IsFresh s → Recovers s empty_world
unfolding Recovers
fresh_recovers s no_log = ap world_read (fresh_read s no_log)

-- so what is held is recovered
pub held_recovers : (v : ℕ) (batches : List Bytes) (s : Sides) → AreWhole (record_fault v) batches → HoldsLog v batches s
    → Recovers s (world_in v batches)
held_recovers v batches s whole (inl (side, g, stands)) = used_recovers s side v g batches stands whole
held_recovers v batches s whole (inr (no_log, new, none)) =
    subst (λ (l : List Bytes). Recovers s (world_in v l)) (sym none) (fresh_recovers s no_log)

-- a batch of records more
one_batch : (v : ℕ) (batches : List Bytes) (batch : Bytes) (changes : List Change) → changes_in v batch ≡ changes
    → flat_map (changes_in v) (batches ++ batch ∷ []) ≡ flat_map (changes_in v) batches ++ changes
one_batch v [] batch changes is = append-nil (changes_in v batch) ∙ is
one_batch v (b ∷ batches) batch changes is =
    ap (λ (l : List Change). changes_in v b ++ l) (one_batch v batches batch changes is)
    ∙ sym (append_assoc (changes_in v b) (flat_map (changes_in v) batches) changes)

whole_batch : (v : ℕ) (batches : List Bytes) (batch : Bytes) → AreWhole (record_fault v) batches → record_fault v batch ≡ None
    → AreWhole (record_fault v) (batches ++ batch ∷ [])
whole_batch v [] batch whole one = (one, tt)
whole_batch v (b ∷ batches) batch whole one = (whole.0, whole_batch v batches batch whole.1 one)

nothing_read : (v : ℕ) (changes : List Change) → records_in v 0 [] ≡ Ok changes → [] ≡ changes
unfolding records_in
nothing_read v changes e = ap changes_of e

world_more : (v : ℕ) (batches : List Bytes) (batch : Bytes) (changes : List Change) → records_in v 0 batch ≡ Ok changes
    → world_in v (committed batches batch) ≡ folded (world_in v batches) changes
world_more v batches [] changes e = ap (λ (l : List Change). folded (world_in v batches) l) (nothing_read v changes e)
world_more v batches (byte ∷ bytes) changes e =
    ap (λ (l : List Change). folded empty_world l) (one_batch v batches (byte ∷ bytes) changes (ap changes_of e))
    ∙ folded-append empty_world (flat_map (changes_in v) batches) changes

whole_more : (v : ℕ) (batches : List Bytes) (batch : Bytes) (changes : List Change) → AreWhole (record_fault v) batches
    → records_in v 0 batch ≡ Ok changes → AreWhole (record_fault v) (committed batches batch)
whole_more v batches [] changes whole e = whole
whole_more v batches (byte ∷ bytes) changes whole e = whole_batch v batches (byte ∷ bytes) whole (ap fault_of e)

-- what is committed makes its changes of the world
pub committed_world : (v : ℕ) (batches : List Bytes) (changes : List Change) → AllByRecursion (IsRecordedIn v) changes
    → world_in v (committed batches (records_text changes)) ≡ folded (world_in v batches) changes
committed_world v batches changes are = world_more v batches (records_text changes) changes (records_read v 0 changes are)

pub committed_whole : (v : ℕ) (batches : List Bytes) (changes : List Change) → AreWhole (record_fault v) batches
    → AllByRecursion (IsRecordedIn v) changes → AreWhole (record_fault v) (committed batches (records_text changes))
committed_whole v batches changes whole are = whole_more v batches (records_text changes) changes whole (records_read v 0 changes are)

-- so a crash during a commit leaves the world before it, or after
pub either_recovers : (v : ℕ) (batches : List Bytes) (changes : List Change) (s : Sides) → AreWhole (record_fault v) batches
    → AllByRecursion (IsRecordedIn v) changes → HoldsEither v batches v (committed batches (records_text changes)) s
    → RecoversEither (world_in v batches) (folded (world_in v batches) changes) s
either_recovers v batches changes s whole are (inl before) = inl (held_recovers v batches s whole before)
either_recovers v batches changes s whole are (inr after) =
    inr (subst (λ (w : World). Recovers s w) (committed_world v batches changes are)
    (held_recovers v (committed batches (records_text changes)) s (committed_whole v batches changes whole are) after))
