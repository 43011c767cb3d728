-- Whose seat a seat is, and what it shows.
use Rattle.std.specs.List.{list_any}
use Rattle.shared_hall.specs.Times.{Time, entries_at, is_retirement}
use Rattle.std.specs.Prelude.{◌≡◌, ℕ, Bool, true, Option, None, Some, List, [], ◌++◌}
use Rattle.atomic_table.specs.declared.shared.Seat.{Seat}
use Rattle.turn_lock.specs.declared.seat.Held.{Held}
use Rattle.turn_lock.specs.declared.seat.Known.{Known}
use Rattle.turn_lock.specs.declared.seat.View.{View}
use Rattle.turn_lock.specs.Lock.{IsSeatOf}
use Rattle.turn_lock.specs.Seats.{OwnPlaces, known_of}
use Rattle.outside.specs.Sides.{Sides}
use Rattle.world_data.specs.Worlds.{empty_world}
use Rattle.world_model.specs.Histories.{IsLegal, Reaches}
use Rattle.world_model.specs.Halls.{Hall, NamesChanged}
use Rattle.world_model.specs.Seats.{Knows, AddsCalls, NamesChangedBy}
use Rattle.world_model.specs.declared.events.Entry.{Entry}
use Rattle.world_model.specs.declared.events.Opening.{Opening}
use Rattle.durable_core.specs.declared.cores.DurableCore.{DurableCore}
use Rattle.byte_text.specs.Names.{Bytes}
use Rattle.durable_core.specs.Histories.{LeavesGeneration, Writing, writing_of}
use Rattle.durable_core.specs.Logged.{hall_of, disk_of}
use Rattle.durable_core.specs.Parts.{IsPartOfWorld}
use Rattle.repl_stream.specs.Texts.{IsAsk, IsPart}
use Rattle.repl_stream.specs.declared.asks.Ask.{Ask}
use Rattle.repl_stream.specs.declared.parts.Part.{Part}
use Rattle.shared_hall.specs.declared.places.HallCore.{HallCore}
use Rattle.shared_hall.specs.declared.places.Place.{Place}
use Rattle.shared_hall.specs.declared.places.Begun.{Begun}
use Rattle.shared_hall.specs.declared.works.HallWork.{HallWork}
use Rattle.shared_hall.specs.declared.works.HallAnswer.{HallAnswer}
use Rattle.shared_hall.specs.declared.halls.SharedHall.{SharedHall}
use Rattle.shared_hall.specs.Cores.{begun, core_in, hall_in, has_left, opening_with, tells, StandsIn}
use Rattle.shared_hall.specs.Fed.{EndsNoted, FeedsLogs, any_grown, any_lasting, part_note}
use Rattle.shared_hall.specs.Turns.{acts, note_by, Gives}

abbrev pub LockSeat : Type 0 → Type 0
LockSeat D = Seat (Option (Held (HallCore D) HallWork (HallAnswer D))) (View (Begun D) Entry HallWork)

-- a seat of a hall has its opening; this one stands for none
abbrev pub no_opening : Opening
no_opening = record { world = empty_world; logged = 0; moment = 0; count = 0 }

abbrev pub opening_in : {D : Type 0} → Option (Begun D) → Opening
opening_in None = no_opening
opening_in (Some b) = b.opening

abbrev pub shown : {D : Type 0} → Known (Begun D) Entry → Knows
shown k = record { opening = opening_in k.opening; seen = k.seen; mine = k.mine; first = k.first }

-- what the seat shows
abbrev pub knows_of : {D : Type 0} → LockSeat D → Knows
knows_of s = shown (known_of s)

-- the disk that was handed in, as it was then
abbrev pub handed_of : {D : Type 0} → SharedHall D → D
handed_of hall = hall.lock.table.shared.key.value.handed.value

-- the core that it was made round, as it was then; and how far its log was rewritten
abbrev pub opened_of : {D : Type 0} → SharedHall D → DurableCore D
opened_of hall = core_in hall.lock.table.shared.key.value.place

abbrev pub first_writing : {D : Type 0} → SharedHall D → Writing
first_writing hall = writing_of (opened_of hall)

module _ {D : Type 0} (crashes : D → Bool) (seen : D → Option Sides) (images : D → Sides → Type 0) (moment : D → ℕ) (left_since : D → ℕ → Sides
    → Type 0) (faults : D → ℕ) where
  -- the seat is one of this hall; what it has seen is a legal history, and its own entries stand there in order
  pub record IsOf (hall : SharedHall D) (s : LockSeat D) : Type 0 where
    pub seat : IsSeatOf (begun crashes seen images moment left_since faults) hall.lock s
    pub own : OwnPlaces (known_of s)
    pub legal : IsLegal (knows_of s).opening (knows_of s).seen

  -- the first seat of a hall round a core that has no history yet
  abbrev pub first_knows : DurableCore D → D → Knows
  first_knows c handed = record {
    opening = opening_with crashes seen images moment left_since faults handed (hall_of c) (disk_of c);
    seen =
        [];
    mine = [];
    first = true;
  }

  -- A turn did a work once, between two states of the core: its acts are entries of the seat's own, of which the last bears the work's note, and
  -- who names the sessions that differ names all that the entries changed. The core stands for all that is seen before and behind it. The first
  -- seat has seen whether the disk was given out before.
  pub record IsDone (handed : D) (first : Writing) (w : HallWork) (out : HallAnswer D) (old new : Knows) : Type 0 where
    pub before : Place D
    pub after : Place D
    pub gives : Gives crashes seen images moment left_since faults w before out after
    pub adds : AddsCalls (acts w out) old new
    pub noted : (begun : Time) × (ended : Time) × (adds.entries ≡ entries_at begun ended (note_by w out) (acts w out))
    pub names : (named : List ℕ) → NamesChanged named (hall_in before) (hall_in after)
        → NamesChangedBy new.opening (old.seen ++ adds.between) adds.entries named
    pub stood : StandsIn crashes seen images moment left_since faults handed (tells crashes seen handed) first before new.opening (old.seen ++ adds.between)
    pub stands : StandsIn crashes seen images moment left_since faults handed (tells crashes seen handed) first after new.opening new.seen
    pub one : (h : Hall) → Reaches new.opening new.seen h → h ≡ hall_in after
    pub once : old.first ≡ true → list_any is_retirement old.seen ≡ has_left before

-- Behind what a seat knows, this part answers the ask: the history leaves a log of this generation, and where the disk that was handed in told
-- its contents and what a crash may leave, the part is of a log whose batches make the world to which the history leads. The last entry tells
-- the ask and the part by its note; and there all notes of the history, whichever seat's their entries are, tell parts of logs that only grow.
pub record AnswersAsk (told : Bool) (first : Writing) (k : Knows) (ask : Ask) (part : Part) (bytes : Bytes) : Type 0 where
  pub generation : ℕ
  pub leaves : LeavesGeneration k.opening first k.seen generation
  pub is : told ≡ true → (h : Hall) → Reaches k.opening k.seen h → IsPartOfWorld ask generation h.world part bytes
  pub noted : EndsNoted k.seen (part_note ask part bytes)
  pub numbers : told ≡ true → IsAsk ask × IsPart part bytes
  pub feeds : told ≡ true → FeedsLogs any_lasting any_grown first k
