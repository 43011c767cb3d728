-- What the works of a hall do.
use Rattle.std.specs.Prelude.{◌≡◌, ℕ, Bool, true, false, List, [], ◌∷◌, length, Option, Some, None}
use Rattle.byte_text.specs.Names.{Bytes}
use Rattle.outside.specs.Crashes.{EachImage}
use Rattle.outside.specs.Sides.{Sides}
use Rattle.world_data.specs.Limits.{take_frames}
use Rattle.world_model.specs.Halls.{NamesChanged}
use Rattle.world_model.specs.Outcomes.{enter_outcome, take_outcome, given_count, call_acts, IsCount}
use Rattle.world_model.specs.Seats.{Act}
use Rattle.world_model.specs.declared.events.CallOutcome.{CallOutcome}
use Rattle.world_model.specs.declared.events.CallOutcome.TheVariants as called
use Rattle.world_model.specs.declared.events.Event.TheVariants as event
use Rattle.world_model.specs.declared.events.Outcome.{Outcome}
use Rattle.world_model.specs.declared.events.Outcome.TheVariants as outcome
use Rattle.world_model.specs.declared.events.Entry.{Entry}
use Rattle.journal.specs.Openings.{opened_generation}
use Rattle.log_record.specs.Journals.{Journal}
use Rattle.log_record.specs.Recovery.{Recovers}
use Rattle.repl_stream.specs.Feeds.{IfGiven, bytes_in, called_of}
use Rattle.shared_hall.specs.Cores.{hall_in, disk_in, has_left, log_state_in, writing_in, KeepsIn, time_with}
use Rattle.shared_hall.specs.Fed.{IsGiven, note_in}
use Rattle.shared_hall.specs.Times.{entries_at}
use Rattle.shared_hall.specs.declared.places.HallCore.{HallCore}
use Rattle.shared_hall.specs.declared.places.Place.{Place}
use Rattle.shared_hall.specs.declared.works.HallWork.{HallWork}
use Rattle.shared_hall.specs.declared.works.HallWork.TheVariants as work
use Rattle.shared_hall.specs.declared.works.HallAnswer.{HallAnswer}
use Rattle.shared_hall.specs.declared.works.HallAnswer.TheVariants as answer

-- how a retirement ended: Stopped where the disk was given out before
abbrev pub retire_outcome : {D : Type 0} → Option (D × CallOutcome) → Outcome
retire_outcome None = outcome.Answered called.Stopped
retire_outcome (Some given) = outcome.Answered given.1

-- what the works and their answers make entries of
abbrev pub acts : {D : Type 0} → HallWork → HallAnswer D → List Act
acts work.Enter (answer.Entered r) = (event.Enter, enter_outcome r) ∷ []
acts (work.Call w) (answer.Called a asked touched) = call_acts w.session w.moment w.asked a.served a.end
acts (work.Take w) (answer.Taken t into) = (event.Take w.session, take_outcome t into.list) ∷ []
acts (work.Tick w) (answer.Ticked c touched) = (event.Tick w.moment, outcome.Answered c) ∷ []
acts (work.Close n) answer.Done = (event.Close n, outcome.Done) ∷ []
acts (work.Remove n) answer.Done = (event.Remove n, outcome.Done) ∷ []
acts work.StepRewrite (answer.Rewrote c state) = (event.Rewrite, outcome.Answered c) ∷ []
acts (work.Part w) (answer.Parted a into) = (event.Rewrite, outcome.Answered (called_of a)) ∷ []
acts work.Retire (answer.Retired given) = (event.Retire, retire_outcome given) ∷ []
acts _ _ = []

-- the note of the last of them: a part that was given is told there
abbrev pub note_by : {D : Type 0} → HallWork → HallAnswer D → Bytes
note_by (work.Part w) (answer.Parted a into) = note_in w.ask a into
note_by _ _ = []

-- a work that only the first seat hands in
abbrev pub retires : HallWork → Bool
retires work.Retire = true
retires w = false

module _ {D : Type 0} (crashes : D → Bool) (seen : D → Option Sides) (images : D → Sides → Type 0) (moment : D → ℕ) (left_since : D → ℕ → Sides
    → Type 0) (faults : D → ℕ) where
  -- the entries of a work, by the value afterwards
  abbrev pub entries_of : HallWork → HallAnswer D → HallCore D → List Entry
  entries_of w out h = entries_at
      (time_with crashes seen images moment left_since faults h.handed.value (disk_in h.before.value))
      (time_with crashes seen images moment left_since faults h.handed.value (disk_in h.place)) (note_by w out) (acts w out)

  -- the disk is given out once; where all was committed before, whatever a crash may leave of it is the hall's world, and an opening finds a log
  -- of the core's generation there
  abbrev pub GivesOut : Place D → Option (D × CallOutcome) → Place D → Type 0
  GivesOut old None new = has_left old ≡ true
  GivesOut old (Some given) new =
      (has_left old ≡ false)
      × (has_left new ≡ true)
      × (disk_in new ≡ given.0)
      × ((j : Journal) → KeepsIn crashes seen images old j → crashes (disk_in old) ≡ true → given.1 ≡ called.Ok
      → EachImage (images given.0) (λ image. Recovers image (hall_in new).world))
      × ((j : Journal) → KeepsIn crashes seen images old j → given.1 ≡ called.Ok → (s : Sides) → seen given.0 ≡ Some s
      → opened_generation s ≡ (writing_in new).generation)

  -- each work has an answer of its own kind, with what the work had brought
  abbrev pub Gives : HallWork → Place D → HallAnswer D → Place D → Type 0
  Gives work.Enter old (answer.Entered r) new = Unit {0}
  Gives (work.Call w) old (answer.Called a asked touched) new = (asked ≡ w.asked) × IsCount a.served a.end (length w.asked)
      × NamesChanged touched (hall_in old) (hall_in new)
  Gives (work.Take w) old (answer.Taken t into) new = (length into.list ≡ given_count t) × (into.places ≡ take_frames)
  Gives (work.Tick w) old (answer.Ticked c touched) new = NamesChanged touched (hall_in old) (hall_in new)
  Gives (work.Close n) old answer.Done new = Unit {0}
  Gives (work.Remove n) old answer.Done new = Unit {0}
  Gives work.StepRewrite old (answer.Rewrote c state) new = state ≡ log_state_in new
  Gives (work.Part w) old (answer.Parted a into) new = (j : Journal) → KeepsIn crashes seen images old j
      → IfGiven a (λ part. (batches : List Bytes) × IsGiven (writing_in new).generation (hall_in new).world batches w.ask part (bytes_in into))
  Gives work.Retire old (answer.Retired given) new = GivesOut old given new
  Gives _ _ _ _ = ⊥
