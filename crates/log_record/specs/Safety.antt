-- When a disk is safe for a history: whatever a crash leaves is recovered as the world after a beginning of the history
-- that holds all that was acknowledged.
use Rattle.std.specs.Prelude.{◌≡◌, ◌⊎◌, ◌≤◌, ◌-◌, ◌||◌, ℕ, Bool, false, List, [], ◌∷◌, ◌++◌, length, take}
use Rattle.world_model.specs.Halls.{Hall}
use Rattle.world_model.specs.Histories.{Reaches, Follows, gives_disk, acknowledges, acked_count}
use Rattle.world_data.specs.declared.worlds.World.{World}
use Rattle.world_model.specs.declared.events.Entry.{Entry}
use Rattle.world_model.specs.declared.events.Opening.{Opening}
use Rattle.outside.specs.Sides.{Sides}
use Rattle.outside.specs.Crashes.{EachSince}
use Rattle.log_record.specs.Recovery.{Recovers}

-- the moment and the count of faults at the end of some entries
abbrev pub moment_after : ℕ → List Entry → ℕ
moment_after moment [] = moment
moment_after moment (e ∷ entries) = moment_after e.moment entries

abbrev pub count_after : ℕ → List Entry → ℕ
count_after count [] = count
count_after count (e ∷ entries) = count_after e.count entries

-- whether the disk was given out by then
abbrev pub out_after : Bool → List Entry → Bool
out_after is_out [] = is_out
out_after is_out (e ∷ entries) = out_after (is_out || gives_disk e) entries

-- an entry may come behind the entries of a history: of its moment, its count of faults and its note
abbrev pub ComesNext : Opening → List Entry → Entry → Type 0
ComesNext o entries e = Follows (moment_after o.moment entries) (count_after o.count entries) (out_after false entries) e

-- the first n entries of a history lead to a world
abbrev pub Passes : Opening → List Entry → ℕ → World → Type 0
Passes o entries n w = (h : Hall) × Reaches o (take n entries) h × (h.world ≡ w)

-- an image is recovered as the world after some entries, at least and at most so many
pub record RecoversPassed (Worlds : ℕ → World → Type 0) (least most : ℕ) (image : Sides) : Type 0 where
  pub count : ℕ
  pub at_least : least ≤ count
  pub at_most : count ≤ most
  pub world : World
  pub passed : Worlds count world
  pub recovers : Recovers image world

-- whatever a crash since the end of the first n entries might have left is recovered as the world after some of all
-- entries, those that were acknowledged by then among them, by a mark of what acknowledges
abbrev pub IsSafe : {D : Type 0} → (Entry → Bool) → (D → ℕ → Sides → Type 0) → D → ℕ → List Entry → (ℕ → World → Type 0) → Type 0
IsSafe marks left_since disk start entries Worlds = (n : ℕ) → n ≤ length entries
    → EachSince left_since disk (moment_after start (take n entries)) (RecoversPassed Worlds (acked_count marks (take n entries)) (length entries))

-- a disk is safe for a history: frames that were given acknowledge, and a step of rewriting that was answered Ok
unfoldable pub Safe : {D : Type 0} → (D → ℕ → Sides → Type 0) → D → Opening → List Entry → Type 0
Safe left_since disk o entries = IsSafe acknowledges left_since disk o.moment entries (Passes o entries)

-- runs: histories one behind another, whose entries are counted through

abbrev pub Run : Type 0
Run = List (Opening × List Entry)

abbrev pub entries_of : Run → List Entry
entries_of [] = []
entries_of ((o, entries) ∷ rest) = entries ++ entries_of rest

abbrev pub start_of : Run → ℕ
start_of [] = 0
start_of ((o, entries) ∷ rest) = o.moment

-- the first n entries of a run lead to a world
abbrev pub RunPasses : Run → ℕ → World → Type 0
RunPasses [] n w = ⊥
RunPasses ((o, entries) ∷ rest) n w = ((n ≤ length entries) × Passes o entries n w) ⊎ ((length entries ≤ n) × RunPasses rest (n - length entries) w)

-- a disk is safe for a run, by the same mark
unfoldable pub SafeRun : {D : Type 0} → (D → ℕ → Sides → Type 0) → D → Run → Type 0
SafeRun left_since disk run = IsSafe acknowledges left_since disk (start_of run) (entries_of run) (RunPasses run)
