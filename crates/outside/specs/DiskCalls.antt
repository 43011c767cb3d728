-- The calls that a disk in memory remembers: what it reads as after them, and what a crash may leave. A list of
-- calls has the newest first where nothing else is said.
use Rattle.std.specs.Prelude.{◌≡◌, ◌-◌, ◌/◌, ◌%◌, ◌≤◌, ℕ, Bool, true, false, not, List, [], ◌∷◌, length, take, drop, max, replicate, if◌then◌else◌}
use Rattle.std.specs.Prelude.{◌==◌}
use Rattle.std.specs.List.{list_any}
use Rattle.outside.specs.declared.sides.Side.{Side}
use Rattle.outside.specs.declared.sides.Side.TheVariants.{A, B}
use Rattle.outside.specs.declared.disk_calls.Call.{Call}
use Rattle.outside.specs.declared.disk_calls.Call.TheVariants.{Look, Write, Cut, Sync}
use Rattle.outside.specs.Causes.{next_count}
use Rattle.outside.specs.Sides.{Sides, side_of, with_side, On}
use Rattle.outside.specs.Disks.{write_over, Torn, CutOrNot}

-- what a disk that remembers its calls shows: both sides at first, the calls, the numbers of the calls that fail,
-- and how many calls were made and failed
pub record Remembered : Type 0 where
  pub start : Sides
  pub calls : List Call
  pub failing : List ℕ
  pub made : ℕ
  pub faults : ℕ

-- both sides after a call
abbrev pub done : Call → Sides → Sides
done Look s = s
done (Write side at piece) s = with_side s side (write_over at piece (side_of s side))
done (Cut side len) s = with_side s side (take len (side_of s side))
done (Sync side) s = s

-- both sides after these calls
abbrev pub read_after : Sides → List Call → Sides
read_after start [] = start
read_after start (call ∷ earlier) = done call (read_after start earlier)

-- what a crash may leave after these calls
abbrev pub IsImage : Sides → List Call → Sides → Type 0
IsImage start [] c = c ≡ start
IsImage start (Look ∷ earlier) c = IsImage start earlier c
IsImage start (Write side at piece ∷ earlier) c = (d : Sides) × IsImage start earlier d × On side (Torn at (length piece)) d c
IsImage start (Cut side len ∷ earlier) c = (d : Sides) × IsImage start earlier d × On side (CutOrNot len) d c
IsImage start (Sync side ∷ earlier) c = IsImage start earlier c × (side_of c side ≡ side_of (read_after start earlier) side)

-- the first calls, as many as had been made at that moment
abbrev pub calls_until : ℕ → List Call → List Call
calls_until moment calls = drop (length calls - moment) calls

-- what a crash at some moment from t on might have left
pub record LeftSince (start : Sides) (calls : List Call) (t : ℕ) (c : Sides) : Type 0 where
  pub moment : ℕ
  pub since : t ≤ moment
  pub until : moment ≤ length calls
  pub image : IsImage start (calls_until moment calls) c

-- the longest that a side read as since its last sync, after a call with which both sides read as s
abbrev pub longest_after_call : Call → Side → Sides → ℕ → ℕ
longest_after_call (Sync A) A s before = length s.a
longest_after_call (Sync B) B s before = length s.b
longest_after_call call side s before = max before (length (side_of s side))

abbrev pub longest_after : Sides → List Call → Side → ℕ
longest_after start [] side = length (side_of start side)
longest_after start (call ∷ earlier) side = longest_after_call call side (read_after start (call ∷ earlier)) (longest_after start earlier side)

-- the disk after a call that it remembers
abbrev pub remembers : Call → Remembered → Remembered
remembers call d = record d { calls = call ∷ d.calls; made = next_count d.made }

-- the disk after a call that failed
abbrev pub refuses : Remembered → Remembered
refuses d = record d { made = next_count d.made; faults = next_count d.faults }

-- what the disk reads as
abbrev pub reads_as : Remembered → Sides
reads_as d = read_after d.start d.calls

-- the call syncs this side
abbrev pub syncs : Side → Call → Bool
syncs A (Sync A) = true
syncs B (Sync B) = true
syncs side call = false

-- a write or a cut of a side that no later call syncs
abbrev pub is_open : Call → List Call → Bool
is_open (Write side at piece) later = not (list_any (syncs side) later)
is_open (Cut side len) later = not (list_any (syncs side) later)
is_open call later = false

-- the call with bytes 1 in the range that it writes
abbrev pub with_ones : Call → Call
with_ones (Write side at piece) = Write side at (replicate (length piece) 1)
with_ones call = call

-- both sides after an open call, of which a crash makes what the digit says: 0, it did not happen; 1, it happened;
-- 2, it happened, and wrote bytes 1
abbrev pub done_by : ℕ → Call → Sides → Sides
done_by digit call s = if digit == 0 then s else if digit == 1 then done call s else done (with_ones call) s

-- one image after these calls, the oldest first: the digits of `choice` in base 3, the lowest first, belong to the
-- open ones among them
abbrev pub chosen : Sides → List Call → ℕ → Sides
chosen s [] choice = s
chosen s (call ∷ later) choice = if is_open call later then chosen (done_by (choice % 3) call s) later (choice / 3) else
    chosen (done call s) later choice
