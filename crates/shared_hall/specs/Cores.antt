-- A core that takes turns: its hall and its disk, while the disk is in and when it was given out.
use Rattle.std.specs.Prelude.{◌≡◌, ◌&&◌, ℕ, Bool, true, false, not, List, [], Option, is_some}
use Rattle.byte_text.specs.Names.{Bytes}
use Rattle.outside.specs.Crashes.{LeavesOnly}
use Rattle.outside.specs.Sides.{Sides}
use Rattle.world_data.specs.Sound.{IsSoundWorld}
use Rattle.world_model.specs.Halls.{Hall}
use Rattle.world_model.specs.Histories.{stopped, opening_hall}
use Rattle.world_model.specs.Seats.{Act}
use Rattle.world_model.specs.declared.events.Entry.{Entry}
use Rattle.world_model.specs.declared.events.LogState.{LogState}
use Rattle.world_model.specs.declared.events.Opening.{Opening}
use Rattle.journal.specs.Journals.{log_bytes}
use Rattle.journal.specs.Logs.{HasGrown}
use Rattle.log_record.specs.Journals.{Journal}
use Rattle.log_record.specs.Laws.{Stood}
use Rattle.durable_core.specs.Kept.{settled_log}
use Rattle.durable_core.specs.Logged.{hall_of, disk_of, KeepsLogOf}
use Rattle.durable_core.specs.Histories.{Writing, writing_of}
use Rattle.durable_core.specs.Rewriting.{is_idle}
use Rattle.durable_core.specs.Written.{KeepsGrown, KeepsSided, Sided}
use Rattle.durable_core.specs.declared.cores.DurableCore.{DurableCore}
use Rattle.shared_hall.specs.Fed.{IsFound}
use Rattle.shared_hall.specs.Times.{Time, time_of}
use Rattle.shared_hall.specs.Standing.{IsAct, FrontBy, TurnBy, Stands}
use Rattle.shared_hall.specs.declared.places.Place.{Place}
use Rattle.shared_hall.specs.declared.places.Place.TheVariants.{Inside, Out}
use Rattle.shared_hall.specs.declared.places.HallCore.{HallCore}
use Rattle.shared_hall.specs.declared.places.Begun.{Begun}

-- the hall of a core: it has stopped where the disk was given out
abbrev pub hall_in : {D : Type 0} → Place D → Hall
hall_in (Inside c) = hall_of c
hall_in (Out left) = stopped (hall_of left.value)

-- its disk, also as it was given out
abbrev pub disk_in : {D : Type 0} → Place D → D
disk_in (Inside c) = disk_of c
disk_in (Out left) = disk_of left.value

-- what its log tells beside an answer; a log that was given out has no bytes
abbrev pub log_state_in : {D : Type 0} → Place D → LogState
log_state_in (Inside c) = record { bytes = log_bytes c.tail.journal; is_rewriting = not (is_idle c.tail.rewriting) }
log_state_in (Out left) = record { bytes = 0; is_rewriting = false }

-- the core, also as it was when its disk was given out; and how far its log was rewritten
abbrev pub core_in : {D : Type 0} → Place D → DurableCore D
core_in (Inside c) = c
core_in (Out left) = left.value

abbrev pub writing_in : {D : Type 0} → Place D → Writing
writing_in p = writing_of (core_in p)

abbrev pub has_left : {D : Type 0} → Place D → Bool
has_left (Inside c) = false
has_left (Out left) = true

-- the log is this one; of a disk that was given out nothing more is said
abbrev pub KeepsIn : {D : Type 0} → (D → Bool) → (D → Option Sides) → (D → Sides → Type 0) → Place D → Journal → Type 0
KeepsIn crashes seen images (Inside c) j = KeepsLogOf crashes seen images c j
KeepsIn crashes seen images (Out left) j = Unit {0}

-- and these are the batches on both sides of it
abbrev pub SidedIn : {D : Type 0} → (D → Bool) → (D → Option Sides) → (D → Sides → Type 0) → Place D → Sided → Type 0
SidedIn crashes seen images (Inside c) s = KeepsSided crashes seen images c.tail.journal s
SidedIn crashes seen images (Out left) s = Unit {0}

-- a disk tells its contents and what a crash may leave
abbrev pub tells : {D : Type 0} → (D → Bool) → (D → Option Sides) → D → Bool
tells crashes seen disk = crashes disk && is_some (seen disk)

-- The members of the disks of which is spoken
module _ {D : Type 0} (crashes : D → Bool) (seen : D → Option Sides) (images : D → Sides → Type 0) (moment : D → ℕ) (left_since : D → ℕ → Sides
    → Type 0) (faults : D → ℕ) where
  -- one act of a core, and its note
  abbrev pub ActsNoted : Place D → Place D → Act → Bytes → Type 0
  ActsNoted = IsAct hall_in writing_in disk_in has_left (KeepsIn crashes seen images) (SidedIn crashes seen images) crashes images moment
      left_since faults

  -- with none
  abbrev pub Acts : Place D → Place D → Act → Type 0
  Acts old new a = ActsNoted old new a []

  -- acts behind which others may come
  abbrev pub ActsInFront : List Act → Place D → Place D → Type 0
  ActsInFront = FrontBy hall_in writing_in disk_in has_left (KeepsIn crashes seen images) (SidedIn crashes seen images) crashes images moment
      left_since faults

  -- the acts of a turn, of which the last bears this note and begins with this disk
  abbrev pub TurnsBy : List Act → Bytes → D → Place D → Place D → Type 0
  TurnsBy = TurnBy hall_in writing_in disk_in has_left (KeepsIn crashes seen images) (SidedIn crashes seen images) crashes images moment
      left_since faults

  -- over the disk that was handed in
  abbrev pub StandsIn : D → Bool → Writing → Place D → Opening → List Entry → Type 0
  StandsIn handed = Stands hall_in writing_in disk_in has_left (KeepsIn crashes seen images) (SidedIn crashes seen images) crashes images moment
      left_since faults (moment handed) (IsFound (seen handed) (images handed))

  -- the time of a disk; what was told of the one that was handed in decides whether moments are counted
  abbrev pub time_with : D → D → Time
  time_with handed disk = time_of moment faults (tells crashes seen handed) disk

  abbrev pub opening_with : D → Hall → D → Opening
  opening_with handed h disk = record {
    world = h.world;
    logged = h.logged;
    moment = (time_with handed disk).moment;
    count =
        (time_with handed disk).count;
  }

  -- how the history of a value begins that has none yet
  abbrev pub begun : HallCore D → Begun D
  begun h = record { opening = opening_with h.handed.value (hall_in h.place) (disk_in h.place); disk = h.handed.value; core = core_in h.place }

  -- the value is as this history leaves it
  pub record StandsFor (h : HallCore D) (b : Begun D) (log : List Entry) : Type 0 where
    pub handed : h.handed.value ≡ b.disk
    pub stands : StandsIn b.disk (tells crashes seen b.disk) (writing_of b.core) h.place b.opening log

  -- A core as an opening gives it, over the disk that was handed in there: its hall opens with a sound world, and where that disk told its
  -- contents and its crashes, the log stands with nothing pending, and grew from all from which that disk's log did.
  pub record IsOpenedOn (c : DurableCore D) (handed : D) : Type 0 where
    pub hall : hall_of c ≡ opening_hall (hall_of c).world (hall_of c).logged
    pub sound : IsSoundWorld (hall_of c).world
    pub told : tells crashes seen handed ≡ true → crashes (disk_of c) ≡ true
    pub kept : tells crashes seen handed ≡ true → KeepsLogOf crashes seen images c (settled_log (hall_of c).world)
    pub stood : tells crashes seen handed ≡ true → (o : Opening) × (o.world ≡ (hall_of c).world) × (o.logged ≡ (hall_of c).logged)
        × Stood images moment left_since (disk_of c) o [] (hall_of c) (settled_log (hall_of c).world)
    pub grown : tells crashes seen handed ≡ true → (before : ℕ) (earlier : List Bytes) → IsFound (seen handed) (images handed) before earlier
        → KeepsGrown crashes seen images c.tail.journal before earlier
    pub left : tells crashes seen handed ≡ true → (before : ℕ) (earlier : List Bytes) → IsFound (seen handed) (images handed) before earlier
        → LeavesOnly moment left_since handed (disk_of c) (HasGrown before earlier)
