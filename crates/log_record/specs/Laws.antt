-- Laws of the log.
use Rattle.std.specs.Prelude.{◌≡◌, ◌≢◌, ◌≤◌, ℕ, Bool, true, false, List, [], ◌∷◌, ◌++◌, length, Ok}
use Rattle.byte_text.specs.Names.{Bytes}
use Rattle.world_data.specs.Worlds.{empty_world}
use Rattle.world_data.specs.declared.worlds.World.{World}
use Rattle.world_data.specs.declared.worlds.Change.{Change}
use Rattle.outside.specs.declared.sides.Side.{Side}
use Rattle.world_model.specs.Halls.{Hall}
use Rattle.world_model.specs.Histories.{opening_hall, Step, Reaches, gave}
use Rattle.world_model.specs.declared.events.Event.{Event}
use Rattle.world_model.specs.declared.events.Outcome.{Outcome}
use Rattle.world_model.specs.declared.events.Entry.{Entry}
use Rattle.world_model.specs.declared.events.Opening.{Opening}
use Rattle.outside.specs.Sides.{Sides, side_of, other_side}
use Rattle.outside.specs.Crashes.{EachSince}
use Rattle.log_sides.specs.Texts.{IsHeading}
use Rattle.log_record.specs.Folding.{folded}
use Rattle.log_record.specs.Batches.{open_gate, all_changes, AreRecorded, AreBytes, records_in}
use Rattle.log_record.specs.Readings.{Damaged, Fresh, is_open, reading, stands, side_over, gate_place, max_side, IsOlder, Standing}
use Rattle.log_record.specs.Standing.{IsFound}
use Rattle.log_record.specs.Recovery.{Recovers, Holds}
use Rattle.log_record.specs.Safety.{moment_after, ComesNext, Passes, IsSafe, Safe}
use Rattle.log_record.specs.EventWrites.{Does, writes_by}
use Rattle.log_record.specs.Journals.{Journal, KeepsLog, Turn, TellsNow}

-- a history that led to a hall, over a disk that is safe for it and a journal that keeps the hall's log
pub record Stood {D : Type 0} (images : D → Sides → Type 0) (moment : D → ℕ) (left_since : D → ℕ → Sides → Type 0) (disk : D) (o : Opening)
    (entries : List Entry) (h : Hall) (j : Journal) : Type 0 where
  pub reached : Reaches o entries h
  pub past : moment_after o.moment entries ≤ moment disk
  pub safe : Safe left_since disk o entries
  pub log : KeepsLog (images disk) h j

-- one more entry, which is a step of the hall and over which the call did to the disk what it owes: all stands as before, and
-- the disk is safe
abbrev pub TurnsKeepSafe : {D : Type 0} → (D → Sides → Type 0) → (D → ℕ) → (D → ℕ → Sides → Type 0) → Type 0
TurnsKeepSafe {D} images moment left_since = (old new : D) (o : Opening) (entries : List Entry) (e : Entry) (h next : Hall) (before after : Journal)
    → TellsNow images moment left_since old → TellsNow images moment left_since new
    → Stood images moment left_since old o entries h before
    → Step h e.event e.outcome next → ComesNext o entries e
    → Turn images moment left_since old new h before e.event e.outcome next after → e.moment ≡ moment new
    → Stood images moment left_since new o (entries ++ e ∷ []) next after

-- a call of a core keeps its disk safe: of any history behind which all stood, all stands behind it with the call's entry
abbrev pub KeepsSafe : {D : Type 0} → (D → Sides → Type 0) → (D → ℕ) → (D → ℕ → Sides → Type 0) → D → D → Hall → Journal → Event → Outcome → Hall
    → Journal → Type 0
KeepsSafe images moment left_since old new h before event outcome next after = (o : Opening) (entries : List Entry) (e : Entry)
    → Stood images moment left_since old o entries h before
    → e.event ≡ event → e.outcome ≡ outcome → e.moment ≡ moment new → ComesNext o entries e
    → Stood images moment left_since new o (entries ++ e ∷ []) next after

-- a disk that is safe for a history by a mark is safe by each that marks fewer entries
abbrev pub FewerStaySafe : {D : Type 0} → (D → ℕ → Sides → Type 0) → Type 0
FewerStaySafe {D} left_since = (less more : Entry → Bool) (disk : D) (o : Opening) (entries : List Entry)
    → ((e : Entry) → less e ≡ true → more e ≡ true) → IsSafe more left_since disk o.moment entries (Passes o entries)
    → IsSafe less left_since disk o.moment entries (Passes o entries)

-- so a safe disk is safe where frames alone acknowledge
abbrev pub FramesStaySafe : {D : Type 0} → (D → ℕ → Sides → Type 0) → Type 0
FramesStaySafe {D} left_since = (disk : D) (o : Opening) (entries : List Entry) → Safe left_since disk o entries
    → IsSafe gave left_since disk o.moment entries (Passes o entries)

-- all stands at an opening, where all that a crash since then might have left is the opening's world
abbrev pub OpeningsStand : {D : Type 0} → (D → Sides → Type 0) → (D → ℕ) → (D → ℕ → Sides → Type 0) → Type 0
OpeningsStand {D} images moment left_since = (disk : D) (o : Opening) → o.moment ≤ moment disk
    → EachSince left_since disk o.moment (λ image. Recovers image o.world) → Holds (images disk) o.world
    → Stood images moment left_since disk o [] (opening_hall o.world o.logged) (record { committed = o.world; pending = [] })

-- what is recovered is not damaged
abbrev pub RecoveredIsWhole : Type 0
RecoveredIsWhole = (image : Sides) (w : World) (side : Side) (place : ℕ) → Recovers image w → Damaged image side place → ⊥

-- a disk without a log is fresh
abbrev pub EmptyIsFresh : Type 0
EmptyIsFresh = (s : Sides) → is_open s.a ≡ false → s.b ≡ [] → length s.a ≤ max_side → Fresh s

-- a step does the writes of its event, and those alone
abbrev pub StepsMakeTheirWrites : Type 0
StepsMakeTheirWrites = (old new : Hall) (event : Event) (outcome : Outcome) → Step old event outcome new → Does old new (writes_by old event outcome)

-- a side with this text stands, beside one that is not open or older
abbrev pub SidesStand : Type 0
SidesStand = (s : Sides) (side : Side) (version generation gate : ℕ) (batches : List (List Change)) (stale : Bytes)
    → side_of s side ≡ side_over version generation batches gate stale → gate ≢ open_gate → IsHeading version generation
    → AreRecorded version batches → length s.a ≤ max_side → length s.b ≤ max_side → IsOlder generation (side_of s (other_side side))
    → reading s ≡ stands (record {
      side = side;
      version = version;
      generation = generation;
      gate = gate_place batches;
      world = folded empty_world (all_changes batches);
    })

-- a log that is read as standing has such a text
abbrev pub LogsAreFound : Type 0
LogsAreFound = (s : Sides) (standing : Standing) → AreBytes s.a → AreBytes s.b → reading s ≡ stands standing → IsFound s standing

-- whole records of a version are whole records of each later one, of the same changes
abbrev pub OlderRecordsAreNewer : Type 0
OlderRecordsAreNewer = (older newer at : ℕ) (bytes : Bytes) (changes : List Change) → older ≤ newer → records_in older at bytes ≡ Ok changes
    → records_in newer at bytes ≡ Ok changes
