-- The parts of the log that followers were given: the notes of a history tell them, and each is of a log that only grows.
use Rattle.std.specs.Prelude.{◌≡◌, ◌⊎◌, ◌≤◌, ℕ, List, [], ◌∷◌, ◌++◌, Option, Some}
use Rattle.byte_text.specs.Names.{Bytes}
use Rattle.outside.specs.Crashes.{EachImage}
use Rattle.outside.specs.Sides.{Sides}
use Rattle.world_data.specs.declared.worlds.World.{World}
use Rattle.world_model.specs.Halls.{Hall}
use Rattle.world_model.specs.Histories.{opening_hall}
use Rattle.world_model.specs.Seats.{Act, Knows, act_of}
use Rattle.world_model.specs.declared.events.Entry.{Entry}
use Rattle.log_sides.specs.Texts.{gate_place, max_side, newest}
use Rattle.journal.specs.Logs.{Grows, HasGrown}
use Rattle.journal.specs.Openings.{AreWhole}
use Rattle.world_recovery.specs.Recorded.{record_fault}
use Rattle.repl_stream.specs.Feeds.{bytes_in}
use Rattle.repl_stream.specs.Texts.{IsAsk, IsPart, ask_text, part_text}
use Rattle.repl_stream.specs.declared.asks.Ask.{Ask}
use Rattle.repl_stream.specs.declared.feeds.PartAnswer.{PartAnswer}
use Rattle.repl_stream.specs.declared.feeds.PartAnswer.TheVariants.{Given}
use Rattle.repl_stream.specs.declared.part_bytes.PartBytes.{PartBytes}
use Rattle.repl_stream.specs.declared.parts.Part.{Part}
use Rattle.durable_core.specs.Histories.{Writing, Writes}
use Rattle.durable_core.specs.Parts.{IsPartOfLog, MakeWorld}

-- the note of an entry by which an ask was answered with a part: the texts of both
abbrev pub part_note : Ask → Part → Bytes → Bytes
part_note ask part bytes = ask_text ask ++ part_text part bytes

-- the same by the answer: no note, where no part was given
abbrev pub note_in : Ask → PartAnswer → PartBytes → Bytes
note_in ask (Given part) into = part_note ask part (bytes_in into)
note_in ask answer into = []

-- this part answers the ask out of a log of this generation with these batches, which are whole and make this world
pub record IsGiven (generation : ℕ) (world : World) (batches : List Bytes) (ask : Ask) (part : Part) (bytes : Bytes) : Type 0 where
  pub asked : IsAsk ask
  pub given : IsPart part bytes
  pub is : IsPartOfLog ask generation batches part bytes
  pub makes : MakeWorld batches world
  pub numbered : 1 ≤ generation
  pub short : gate_place newest generation batches ≤ max_side

-- a note tells such a part
pub record IsNoted (generation : ℕ) (world : World) (batches : List Bytes) (note : Bytes) : Type 0 where
  pub ask : Ask
  pub part : Part
  pub bytes : Bytes
  pub note_is : note ≡ part_note ask part bytes
  pub given : IsGiven generation world batches ask part bytes

-- Logs are told by the batches that the log of each generation has in the end, as far as parts of it were given. Acts lead from a hall and how far
-- its log was written then to a hall and a log; that had then a beginning of the batches of its generation, which make the hall's world, and the
-- note tells a part of it. Something lasts since then.
pub record IsFed (lasting : ℕ → ℕ → List Bytes → Type 0) (logs : ℕ → List Bytes) (h : Hall) (first : Writing) (acts : List Act) (since : ℕ)
    (note : Bytes) : Type 0 where
  pub hall : Hall
  pub end : Writing
  pub writes : Writes h first acts hall end
  pub batches : List Bytes
  pub later : List Bytes
  pub begun : logs end.generation ≡ batches ++ later
  pub noted : IsNoted end.generation hall.world batches note
  pub lasts : lasting since end.generation batches

-- each note of these entries, behind acts that lead to them, tells a part of one of the logs
abbrev pub AreFed : (ℕ → ℕ → List Bytes → Type 0) → (ℕ → List Bytes) → Hall → Writing → List Act → List Entry → Type 0
AreFed lasting logs h first acts [] = Unit {0}
AreFed lasting logs h first acts (e ∷ es) = ((e.note ≡ []) ⊎ IsFed lasting logs h first (acts ++ act_of e ∷ []) e.moment e.note)
    × AreFed lasting logs h first (acts ++ act_of e ∷ []) es

-- a part was given of the log of this generation, when it had batches of which that holds
pub record WasTold (grew : ℕ → List Bytes → Type 0) (logs : ℕ → List Bytes) (generation : ℕ) : Type 0 where
  pub batches : List Bytes
  pub later : List Bytes
  pub begun : logs generation ≡ batches ++ later
  pub grew_so : grew generation batches

-- of each of the logs, unless it has no batch
abbrev pub WereTold : (ℕ → List Bytes → Type 0) → (ℕ → List Bytes) → Type 0
WereTold grew logs = (n : ℕ) → (logs n ≡ []) ⊎ WasTold grew logs n

-- each batch of each of the logs has whole records
abbrev pub AreAllWhole : (ℕ → List Bytes) → Type 0
AreAllWhole logs = (n : ℕ) → AreWhole (record_fault newest) (logs n)

-- So do all notes that a seat has seen. The batches of each log are whole, and of those that parts were given of it is said how they grew.
pub record FeedsLogs (lasting : ℕ → ℕ → List Bytes → Type 0) (grew : ℕ → List Bytes → Type 0) (first : Writing) (k : Knows) : Type 0 where
  pub logs : ℕ → List Bytes
  pub whole : AreAllWhole logs
  pub told : WereTold grew logs
  pub fed : AreFed lasting logs (opening_hall k.opening.world k.opening.logged) first [] k.seen

-- nothing is said of what lasts, and of how they grew
abbrev pub any_lasting : ℕ → ℕ → List Bytes → Type 0
any_lasting since generation batches = Unit {0}

abbrev pub any_grown : ℕ → List Bytes → Type 0
any_grown generation batches = Unit {0}

-- whatever might have been left since then holds a log that grew from these batches
abbrev pub LastsOn : (ℕ → Sides → Type 0) → ℕ → ℕ → List Bytes → Type 0
LastsOn left since generation batches = (image : Sides) → left since image → HasGrown generation batches image

-- batches grew from all from which what was found grew
abbrev pub GrewFrom : (ℕ → List Bytes → Type 0) → ℕ → List Bytes → Type 0
GrewFrom found generation batches = (before : ℕ) (earlier : List Bytes) → found before earlier → Grows before generation earlier batches

-- a disk that reads so holds a log that grew from these batches, and so does whatever a crash may leave of it
pub record IsFound (seen : Option Sides) (images : Sides → Type 0) (before : ℕ) (earlier : List Bytes) : Type 0 where
  pub sides : Sides
  pub told : seen ≡ Some sides
  pub grown : HasGrown before earlier sides
  pub each : EachImage images (HasGrown before earlier)

-- the last entry that a seat has seen bears this note
abbrev pub EndsNoted : List Entry → Bytes → Type 0
EndsNoted entries note = (front : List Entry) × (last : Entry) × (entries ≡ front ++ last ∷ []) × (last.note ≡ note)
