-- A journal: the world that is committed, and the changes that are pending. How it is written on the sides, and rewritten,
-- is not seen.
use Rattle.std.specs.Prelude.{◌≡◌, ◌≤◌, ℕ, Bool, true, false, ◌&&◌, ◌||◌, List, [], ◌∷◌, ◌++◌}
use Rattle.world_model.specs.Halls.{Hall}
use Rattle.world_model.specs.Histories.{given, is_fine}
use Rattle.world_data.specs.declared.worlds.World.{World}
use Rattle.world_data.specs.declared.worlds.Change.{Change}
use Rattle.world_model.specs.declared.events.Event.{Event}
use Rattle.world_model.specs.declared.events.Event.TheVariants.{Rewrite, Retire}
use Rattle.world_model.specs.declared.events.Outcome.{Outcome}
use Rattle.outside.specs.Sides.{Sides}
use Rattle.outside.specs.Crashes.{EachImage, LeavesOnly}
use Rattle.log_record.specs.Folding.{folded}
use Rattle.log_record.specs.EventWrites.{changes_of, writes_by}
use Rattle.log_record.specs.Recovery.{Recovers, RecoversEither, Holds}

pub record Journal : Type 0 where
  pub committed : World
  pub pending : List Change

-- the world with all that is pending
abbrev pub whole : Journal → World
whole j = folded j.committed j.pending

-- one more change is pending
abbrev pub pushed : Change → Journal → Journal
pushed c j = record j { pending = j.pending ++ c ∷ [] }

-- all that was pending is committed
abbrev pub settled : Journal → Journal
settled j = record { committed = whole j; pending = [] }

-- these changes are pending behind the others
pub record Pends (changes : List Change) (before after : Journal) : Type 0 where
  pub committed : after.committed ≡ before.committed
  pub pending : after.pending ≡ before.pending ++ changes

-- whatever a crash leaves is recovered as the committed world
abbrev pub IsDurable : (Sides → Type 0) → Journal → Type 0
IsDurable images j = Holds images j.committed

-- at each moment of a call a crash leaves the committed world, or the one with all that is pending
abbrev pub Leaves : {D : Type 0} → (D → ℕ) → (D → ℕ → Sides → Type 0) → D → D → Journal → Type 0
Leaves moment left_since old new j = LeavesOnly moment left_since old new (RecoversEither j.committed (whole j))

-- the log of a hall that goes on: all that is pending makes the hall's world of the committed one
pub record IsLogged (images : Sides → Type 0) (h : Hall) (j : Journal) : Type 0 where
  pub world : h.world ≡ whole j
  pub durable : IsDurable images j

-- what a core keeps to between two calls
abbrev pub KeepsLog : (Sides → Type 0) → Hall → Journal → Type 0
KeepsLog images h j = h.stopped ≡ false → IsLogged images h j

-- a step of rewriting, or a retirement
abbrev pub settles : Event → Bool
settles Rewrite = true
settles Retire = true
settles event = false

-- a retirement, which gives the disk out
abbrev pub is_retire : Event → Bool
is_retire Retire = true
is_retire event = false

-- behind it a crash leaves the hall's world: frames were given, or a step of rewriting or a retirement was done
abbrev pub shows : Event → Outcome → Bool
shows event outcome = given outcome || (settles event && is_fine outcome)

-- what a call of a core owes, from one disk, hall and journal to others: a stopped hall leaves its disk alone; else at each
-- moment of the call a crash leaves the committed world, or the one with all that was pending; unless the hall stops, the
-- writes of the call are pending or committed, and a crash leaves what is committed from then on
pub record Turn {D : Type 0} (images : D → Sides → Type 0) (moment : D → ℕ) (left_since : D → ℕ → Sides → Type 0) (old new : D) (h : Hall)
    (before : Journal) (event : Event) (outcome : Outcome) (next : Hall) (after : Journal) : Type 0 where
  pub stopped : h.stopped ≡ true → new ≡ old
  pub leaves : h.stopped ≡ false → Leaves moment left_since old new before
  pub durable : next.stopped ≡ false → IsDurable (images new) after
  pub logs : next.stopped ≡ false → whole after ≡ folded (whole before) (changes_of (writes_by h event outcome))
  pub shown : shows event outcome ≡ true → EachImage (images new) (λ image. Recovers image next.world)

-- what a disk tells of now: this moment is one of those since an earlier one, and since this moment there is no other
pub record TellsNow {D : Type 0} (images : D → Sides → Type 0) (moment : D → ℕ) (left_since : D → ℕ → Sides → Type 0) (disk : D) : Type 0 where
  pub counts_now : (t : ℕ) (image : Sides) → t ≤ moment disk → images disk image → left_since disk t image
  pub only_now : (image : Sides) → left_since disk (moment disk) image → images disk image
