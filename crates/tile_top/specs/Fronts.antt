-- What `serve` promises of the server's seat, the disk and the status.
use Rattle.std.specs.Prelude.{◌≡◌, ◌≢◌, ◌⊎◌, ◌≤◌, ℕ, min, Bool, true, false, List, [], ◌∷◌, ◌++◌, Option, None, Some}
use Rattle.std.specs.List.{list_any}
use Rattle.byte_text.specs.Names.{Bytes}
use Rattle.outside.specs.Causes.{most_count}
use Rattle.outside.specs.Crashes.{EachImage}
use Rattle.outside.specs.Sides.{Sides}
use Rattle.outside.specs.declared.sides.Side.{Side}
use Rattle.world_model.specs.Halls.{Hall}
use Rattle.world_model.specs.Histories.{answer, gives_disk, Reaches}
use Rattle.world_model.specs.Seats.{Knows, Adds}
use Rattle.world_model.specs.declared.events.CallOutcome.TheVariants as called
use Rattle.world_model.specs.declared.events.Entry.{Entry}
use Rattle.world_model.specs.declared.events.Event.TheVariants as event
use Rattle.world_model.specs.declared.events.Outcome.{Outcome}
use Rattle.journal.specs.Openings.{opened_generation, opened_version}
use Rattle.log_record.specs.Recovery.{Recovers}
use Rattle.log_record.specs.Safety.{Safe, count_after}
use Rattle.durable_core.specs.Histories.{LeavesGeneration, Writing}
use Rattle.durable_core.specs.Upgrading.{upgraded}
use Rattle.durable_core.specs.declared.rewritings.Rewriting.TheVariants.{Idle}
use Rattle.serve_run.specs.Ends.{IsEnd, disk_line}
use Rattle.serve_run.specs.Words.{Serve}
use Rattle.serve_run.specs.Loops.{around}
use Rattle.serve_run.specs.LoopServes.{ServesLoop}
use Rattle.outside.specs.Doors.{DoorState}
use Rattle.outside.specs.Waits.{WaitState}
use Rattle.shared_hall.specs.Fed.{FeedsLogs, GrewFrom, IsFound, LastsOn, any_grown, any_lasting}
use Rattle.shared_hall.specs.Restarts.{Carries}
use Rattle.shared_hall.specs.Seats.{AnswersAsk}
use Rattle.shared_hall.specs.Times.{is_retirement}
use Rattle.replay_run.specs.Openings.{Opens, IsDamagedAt}
use Rattle.replay_run.specs.declared.halts.Halt.{Halt}
use Rattle.replay_run.specs.declared.halts.Halt.TheVariants as halted
use Rattle.tile_top.specs.Tops.{IsHaltEnd}

-- no shared hall was made: the disk was not opened, or memory wanted; the door and the one that waits are as before; `Back` is what is left
-- of the disk, by the halt
pub record IsUnmade (seen : Option Sides) (Back : Halt → Type 0) (door door' : DoorState) (wait wait' : WaitState) (held held' : Option Bytes)
    (status : ℕ) : Type 0 where
  pub same_door : door' ≡ door
  pub same_wait : wait' ≡ wait
  pub why : Halt
  pub unspent : why ≢ halted.Spent
  pub damaged : (side : Side) (place : ℕ) → why ≡ halted.Damaged side place → IsDamagedAt seen side place
  pub back : Back why
  pub ended : IsHaltEnd why held held' status

-- a seat that has seen nothing so far, of a history that opens with a disk's world
pub record IsFirst (seen : Option Sides) (k : Knows) : Type 0 where
  pub opens : Opens seen k.opening.world k.opening.logged
  pub unseen : k.seen ≡ []
  pub unmade : k.mine ≡ []
  pub front : k.first ≡ true

-- The status behind a retirement that ended so, and what was written. A status stays; but 0 stays only where the retirement was answered Ok,
-- and is that of a disk fault where it was not, whose line was written.
abbrev pub EndsBehind : Outcome → ℕ → ℕ → Option Bytes → Option Bytes → Type 0
EndsBehind retired before status between held =
    (((retired ≡ answer called.Ok) ⊎ (before ≢ 0)) × (status ≡ before) × (held ≡ between))
    ⊎ ((before ≡ 0) × (retired ≢ answer called.Ok) × IsEnd between held 5 disk_line status)

-- a hall was retired behind all that a seat had seen, and a status
pub record IsRetired (served k : Knows) (between held : Option Bytes) (before status : ℕ) : Type 0 where
  pub retired : Outcome
  pub retires : Adds event.Retire retired served k
  pub ended : EndsBehind retired before status between held

-- A disk is due behind these entries: the last one is a retirement that was not answered Stopped, or there was none before it.
abbrev pub IsDue : List Entry → Type 0
IsDue entries = (before : List Entry) × (last : Entry) × (entries ≡ before ++ last ∷ [])
    × ((last.outcome ≢ answer called.Stopped) ⊎ (list_any is_retirement before ≡ false))

-- the last of these entries is a retirement that was answered Ok
abbrev pub IsSettled : List Entry → Type 0
IsSettled entries = (before : List Entry) × (last : Entry) × (entries ≡ before ++ last ∷ []) × (gives_disk last ≡ true)

-- A count of faults is the one that a seat has seen last, which legal histories let rise where the log fails; and it has not fallen since the
-- disk was handed in.
pub record IsCounted (handed given : ℕ) (k : Knows) : Type 0 where
  pub begun : min handed most_count ≤ k.opening.count
  pub last : count_after k.opening.count k.seen ≡ min given most_count

-- A disk that was given out is safe for all that a seat has seen. Where the last of that is a retirement that was answered Ok, whatever a
-- crash leaves is the world of all of it. Whatever a crash might have left since a part was given to a follower holds a log that grew from the
-- one of that part; and since the disk was handed in, one that grew from what its log grew from then.
pub record IsLeft {D : Type 0} (seen : D → Option Sides) (images : D → Sides → Type 0) (moment : D → ℕ) (left_since : D → ℕ → Sides → Type 0)
    (handed disk : D) (k : Knows) : Type 0 where
  pub safe : Safe left_since disk k.opening k.seen
  pub settled : IsSettled k.seen → (h : Hall) → Reaches k.opening k.seen h → EachImage (images disk) (λ image. Recovers image h.world)
  pub first : Writing
  pub lasts : FeedsLogs (LastsOn (left_since disk)) (GrewFrom (IsFound (seen handed) (images handed))) first k
  pub carries : Carries (IsFound (seen handed) (images handed)) (left_since disk) (moment handed)

-- How far the log of a disk is rewritten where it was opened: not at all, and it is of the generation that was found, or of the next one where
-- its version was an older one.
abbrev pub opened_writing : Sides → Writing
opened_writing s = record { rewriting = Idle; generation = upgraded (opened_version s) (opened_generation s) }

-- Where the last of what a seat has seen is a retirement that was answered Ok, an opening finds on the disk a log of the generation to which
-- the rewritings of all of that lead: of one more for each that came to its end.
abbrev pub IsWrittenFrom : {D : Type 0} → (D → Option Sides) → Writing → D → Knows → Type 0
IsWrittenFrom seen first disk k = IsSettled k.seen → (s : Sides) → seen disk ≡ Some s
    → LeavesGeneration k.opening first k.seen (opened_generation s)

-- the same, from the opening of the disk that was handed in
abbrev pub IsRewritten : {D : Type 0} → (D → Option Sides) → D → D → Knows → Type 0
IsRewritten seen handed disk k = (s : Sides) → seen handed ≡ Some s → IsWrittenFrom seen (opened_writing s) disk k

-- A shared hall of the disk's world was made, and links were served in a loop up to an end; then it was retired. The server's seat has seen
-- a legal history, and its own entries are those of the serving, and the retirement. Each part that a follower was given is of the log to which
-- that history had led then, from the opening of the disk on: where the disk told its contents and what a crash may leave, of whole batches
-- that make the world of the history so far. There all parts that followers were given, as the notes of the whole history tell them, are of logs
-- that only grew, by each of which the world was that of the history so far.
pub record ServesFront (tell : Bool) (seen : Option Sides) (told : Option ℕ) (s : Serve) (door door' : DoorState) (wait wait' : WaitState)
    (held held' : Option Bytes) (status : ℕ) (k : Knows) : Type 0 where
  pub first : Knows
  pub is_first : IsFirst seen first
  pub writing : Writing
  pub begun : (sides : Sides) → seen ≡ Some sides → writing ≡ opened_writing sides
  pub served : Knows
  pub between : Option Bytes
  pub before : ℕ
  pub serves : ServesLoop told (AnswersAsk tell writing) s (around first door wait) (around served door' wait') held between before
  pub retired : IsRetired served k between held' before status
  pub fed : tell ≡ true → FeedsLogs any_lasting any_grown writing k

-- by what the server's seat has seen, where a hall was made
abbrev pub Fronts : Bool → Option Sides → (Halt → Type 0) → Option ℕ → Serve → DoorState → DoorState → WaitState → WaitState → Option Bytes
    → Option Bytes → ℕ → Option Knows → Type 0
Fronts tell seen Back told s door door' wait wait' held held' status None = IsUnmade seen Back door door' wait wait' held held' status
Fronts tell seen Back told s door door' wait wait' held held' status (Some k) = ServesFront tell seen told s door door' wait wait' held held' status k
