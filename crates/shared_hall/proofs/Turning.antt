-- The acts of a turn, one behind another.
use Rattle.std.proofs.Common.{◌≡◌, ◌≤◌, ℕ, Bool, false, List, [], ◌∷◌, ◌++◌, Option, sym, ap, ◌∙◌, subst}
use Rattle.byte_text.specs.Names.{Bytes}
use Rattle.outside.specs.Sides.{Sides}
use Rattle.world_model.specs.Histories.{is_log_fault}
use Rattle.world_model.specs.Seats.{Act}
use Rattle.std.specs.declared.snapshot.Snapshot.{Snapshot}
use Rattle.log_record.specs.Journals.{is_retire}
use Rattle.durable_core.specs.Histories.{writing_of}
use Rattle.shared_hall.specs.Cores.{hall_in, writing_in, disk_in, has_left, tells, time_with, KeepsIn, SidedIn, Acts, ActsNoted, ActsInFront, TurnsBy, StandsIn, StandsFor}
use Rattle.shared_hall.specs.Fed.{IsFound}
use Rattle.shared_hall.specs.Times.{entries_at}
use Rattle.shared_hall.specs.declared.places.Begun.{Begun}
use Rattle.shared_hall.specs.declared.places.HallCore.{HallCore}
use Rattle.shared_hall.proofs.Lasting.{left_in, once_in}
use Rattle.shared_hall.proofs.Standing.{turn_stands}
use Rattle.world_model.specs.declared.events.Entry.{Entry}
use Rattle.shared_hall.specs.declared.places.Place.{Place}
use Rattle.shared_hall.proofs.Leading.{front_more, turn_more, one_act}

module _ {D : Type 0} (crashes : D → Bool) (seen : D → Option Sides) (images : D → Sides → Type 0) (moment : D → ℕ) (left_since : D → ℕ → Sides → Type 0) (faults : D → ℕ) where
  -- one act alone
  pub acts_alone : (a : Act) (note : Bytes) (old new before : Place D) → before ≡ old → ActsNoted crashes seen images moment left_since faults old new a note → TurnsBy crashes seen images moment left_since faults (a ∷ []) note (disk_in before) old new
  acts_alone a note old new before began act = one_act hall_in writing_in disk_in has_left (KeepsIn crashes seen images) (SidedIn crashes seen images) crashes images moment left_since faults a note (disk_in before) old new (ap disk_in began) act

  -- one behind others
  pub acts_behind : (front : List Act) (a : Act) (old mid new before : Place D) → before ≡ mid → ActsInFront crashes seen images moment left_since faults front old mid → Acts crashes seen images moment left_since faults mid new a
      → TurnsBy crashes seen images moment left_since faults (front ++ a ∷ []) [] (disk_in before) old new
  acts_behind front a old mid new before began made act = turn_more hall_in writing_in disk_in has_left (KeepsIn crashes seen images) (SidedIn crashes seen images) crashes images moment left_since faults front a (disk_in before) old mid new made (ap disk_in began) act

  -- where others may follow
  pub acts_go_on : (front : List Act) (a : Act) (old mid new : Place D) → ActsInFront crashes seen images moment left_since faults front old mid → Acts crashes seen images moment left_since faults mid new a
      → is_log_fault a.1 ≡ false → is_retire a.0 ≡ false → ActsInFront crashes seen images moment left_since faults (front ++ a ∷ []) old new
  acts_go_on front a old mid new made act fine stays = front_more hall_in writing_in disk_in has_left (KeepsIn crashes seen images) (SidedIn crashes seen images) crashes images moment left_since faults front a old mid new made act fine stays

  -- behind a turn the core stands for the turn's entries, too
  pub stands_more : ((d : D) (t u : ℕ) (c : Sides) → t ≤ u → u ≤ moment d → left_since d u c → left_since d t c) → ((d : D) (c : Sides) → left_since d (moment d) c → images d c) → (old new : HallCore D) (acts : List Act) (note : Bytes) (b : Begun D) (log : List Entry) → new.handed ≡ old.handed
      → TurnsBy crashes seen images moment left_since faults acts note (disk_in new.before.value) old.place new.place → StandsFor crashes seen images moment left_since faults old b log
      → StandsFor crashes seen images moment left_since faults new b (log ++ entries_at (time_with crashes seen images moment left_since faults new.handed.value (disk_in new.before.value)) (time_with crashes seen images moment left_since faults new.handed.value (disk_in new.place)) note acts)
  stands_more from_earlier only_now old new acts note b log same turn s =
      let handed : new.handed.value ≡ b.disk = ap (λ (h : Snapshot D). h.value) same ∙ s.handed in
      let told = tells crashes seen b.disk in
      let stands = turn_stands hall_in writing_in disk_in has_left (KeepsIn crashes seen images) (SidedIn crashes seen images) crashes images moment left_since faults (writing_of b.core) (moment b.disk) (IsFound (seen b.disk) (images b.disk)) (once_in crashes seen images) (left_in crashes seen images moment left_since only_now) from_earlier told acts note (disk_in new.before.value) old.place new.place b.opening log s.stands turn in
      record {
        handed = handed;
        stands = subst (λ (d : D). StandsIn crashes seen images moment left_since faults b.disk told (writing_of b.core) new.place b.opening
            (log ++ entries_at (time_with crashes seen images moment left_since faults d (disk_in new.before.value)) (time_with crashes seen images moment left_since faults d (disk_in new.place)) note acts)) (sym handed) stands;
      }
