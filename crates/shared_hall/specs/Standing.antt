-- What the acts of a turn do to a core and its disk, and the histories that a core stands for.
use Rattle.std.specs.Prelude.{◌≡◌, ◌⊎◌, ◌≤◌, ◌<◌, ◌||◌, ℕ, Bool, true, false, List, [], ◌∷◌, ◌++◌, map}
use Rattle.std.specs.List.{list_any}
use Rattle.byte_text.specs.Names.{Bytes}
use Rattle.outside.specs.Causes.{Rose}
use Rattle.outside.specs.Crashes.{EachSince, LeavesOnly}
use Rattle.outside.specs.Sides.{Sides}
use Rattle.world_data.specs.Sound.{IsSoundWorld}
use Rattle.world_model.specs.Halls.{Hall}
use Rattle.world_model.specs.Histories.{Step, Reaches, is_log_fault, is_rewrite, opening_hall}
use Rattle.world_model.specs.Seats.{Act, act_of}
use Rattle.world_model.specs.declared.events.Entry.{Entry}
use Rattle.world_model.specs.declared.events.Opening.{Opening}
use Rattle.journal.specs.Logs.{Grows, HasGrown}
use Rattle.log_record.specs.Journals.{Journal, is_retire}
use Rattle.log_record.specs.Laws.{KeepsSafe, Stood}
use Rattle.log_record.specs.Safety.{moment_after, count_after}
use Rattle.durable_core.specs.Histories.{Writing, Writes, is_failed_step, written}
use Rattle.durable_core.specs.Written.{Sided}
use Rattle.shared_hall.specs.Fed.{AreAllWhole, AreFed, GrewFrom, IsNoted, WereTold}
use Rattle.shared_hall.specs.Times.{time_of, is_retirement}

-- of these logs the one of this generation begins such batches, and no later one has any
pub record IsLast (logs : ℕ → List Bytes) (generation : ℕ) (sided : Sided → Type 0) : Type 0 where
  pub sides : Sided
  pub keeps : sided sides
  pub here : (more : List Bytes) × (sides.batches ≡ logs generation ++ more)
  pub none : (n : ℕ) → generation < n → logs n ≡ []

-- what an act makes of the batches on both sides of a log: in one generation the log grows; and a note tells a part of it
pub record FeedsOn {S : Type 0} (hall : S → Hall) (writing : S → Writing) (is_sided : S → Sided → Type 0) (old new : S) (note : Bytes)
    (s : Sided) : Type 0 where
  pub sides : Sided
  pub keeps : is_sided new sides
  pub grows : Grows (writing old).generation (writing new).generation s.batches sides.batches
  pub noted : (note ≡ []) ⊎ IsNoted (writing new).generation (hall new).world sides.batches note

-- Of a state: its hall, how far its log is rewritten, its disk, whether the disk was given out, the journals that its log keeps, and the batches
-- on both sides of it
module _ {S D : Type 0} (hall : S → Hall) (writing : S → Writing) (disk : S → D) (is_out : S → Bool) (is_log : S → Journal → Type 0)
    (is_sided : S → Sided → Type 0) (crashes : D → Bool) (images : D → Sides → Type 0) (moment : D → ℕ) (left_since : D → ℕ → Sides
    → Type 0) (faults : D → ℕ) where
  -- the log grew from these batches, of which it has some, as long as the hall goes on
  abbrev pub HasSome : S → ℕ → List Bytes → Type 0
  HasSome s before earlier = (hall s).stopped ≡ false → (t : Sided) × is_sided s t × Grows before (writing s).generation earlier t.batches

  -- one act: a step of the hall, with what that does to a rewriting of the log. The log fails only where the disk did, and where it is kept, the
  -- disk stays safe, and at no moment a crash leaves a log that did not grow from what the log grew from. A step of rewriting alone may bear a
  -- note, where the hall goes on.
  pub record IsAct (old new : S) (a : Act) (note : Bytes) : Type 0 where
    pub step : Step (hall old) a.0 a.1 (hall new)
    pub later : faults (disk old) ≤ faults (disk new)
    pub cause : is_log_fault a.1 ≡ true → Rose (faults (disk old)) (faults (disk new))
    pub told : crashes (disk new) ≡ crashes (disk old)
    pub out : is_out new ≡ (is_out old || is_retire a.0)
    pub stays : is_out old ≡ true → disk new ≡ disk old
    pub writes : is_failed_step a.0 a.1 ≡ false → writing new ≡ written (hall old) a.0 a.1 (writing old)
    pub log : (j : Journal) → is_log old j → crashes (disk old) ≡ true → (k : Journal) × is_log new k × (moment (disk old) ≤ moment (disk new))
        × KeepsSafe images moment left_since (disk old) (disk new) (hall old) j a.0 a.1 (hall new) k
    pub left : (j : Journal) → is_log old j → crashes (disk old) ≡ true → (before : ℕ) (earlier : List Bytes) → HasSome old before earlier
        → LeavesOnly moment left_since (disk old) (disk new) (HasGrown before earlier)
    pub noted : (note ≡ []) ⊎ ((is_rewrite a.0 ≡ true) × ((hall new).stopped ≡ false))
    pub fed : (hall new).stopped ≡ false → (j : Journal) → is_log old j → (s : Sided) → is_sided old s → FeedsOn hall writing is_sided old new note s

  -- acts behind which others may come: in none did the log fail, and the disk stayed in
  abbrev pub FrontBy : List Act → S → S → Type 0
  FrontBy [] old new = new ≡ old
  FrontBy (a ∷ acts) old new = (next : S) × IsAct old next a [] × (is_log_fault a.1 ≡ false) × (is_retire a.0 ≡ false) × FrontBy acts next new

  -- the acts of a turn: the last, which begins with this disk, may be any, and bears this note
  pub record EndsBy (acts : List Act) (note : Bytes) (begun : D) (old new : S) : Type 0 where
    pub front : List Act
    pub last : Act
    pub are : acts ≡ front ++ last ∷ []
    pub mid : S
    pub made : FrontBy front old mid
    pub began : begun ≡ disk mid
    pub act : IsAct mid new last note

  abbrev pub TurnBy : List Act → Bytes → D → S → S → Type 0
  TurnBy acts note begun old new = ((acts ≡ []) × (new ≡ old)) ⊎ EndsBy acts note begun old new

  -- since that moment a crash leaves no log that did not grow from these batches, and all that the log has did, as long as the hall goes on
  pub record IsCarried (s : S) (since generation : ℕ) (batches : List Bytes) : Type 0 where
    pub past : since ≤ moment (disk s)
    pub lasts : EachSince left_since (disk s) since (HasGrown generation batches)
    pub now : (hall s).stopped ≡ false → (t : Sided) → is_sided s t → Grows generation (writing s).generation batches t.batches

  -- The history, from an opening with a sound world and a log so far on, leads to the hall and its log. Its entries ended when the disk's time
  -- says, or before; where the disk was given out, that was a retirement, and time stands still. Where contents and crashes are told, the log is
  -- kept and the disk safe, and all notes tell parts of logs that only grew, from what was found when it began, and whatever a crash leaves did so.
  pub record Stands (begun : ℕ) (found : ℕ → List Bytes → Type 0) (told : Bool) (first : Writing) (s : S) (o : Opening) (log : List
      Entry) : Type 0 where
    pub reached : Reaches o log (hall s)
    pub writes : Writes (opening_hall o.world o.logged) first (map act_of log) (hall s) (writing s)
    pub sound : IsSoundWorld o.world
    pub past : moment_after o.moment log ≤ (time_of moment faults told (disk s)).moment
    pub counted : count_after o.count log ≤ (time_of moment faults told (disk s)).count
    pub out : is_out s ≡ list_any is_retirement log
    pub still : is_out s ≡ true → (moment_after o.moment log ≡ (time_of moment faults told (disk s)).moment)
        × (count_after o.count log ≡ (time_of moment faults told (disk s)).count)
    pub kept : told ≡ true → (crashes (disk s) ≡ true) × ((j : Journal) × is_log s j × Stood images moment left_since (disk s) o log (hall s) j)
    pub carried : told ≡ true → (before : ℕ) (earlier : List Bytes) → found before earlier → IsCarried s begun before earlier
    pub fed : told ≡ true → (logs : ℕ → List Bytes) × AreAllWhole logs × WereTold (GrewFrom found) logs
        × AreFed (IsCarried s) logs (opening_hall o.world o.logged) first [] log
        × ((hall s).stopped ≡ false → IsLast logs (writing s).generation (is_sided s))
