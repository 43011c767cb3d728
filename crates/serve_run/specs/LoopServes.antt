-- What serving in a loop does: where the server's seat, the door and the one that waits stand afterwards, and which lines were written.
use Rattle.std.specs.Prelude.{◌≡◌, ◌⊎◌, ◌≤◌, ℕ, Option, Some}
use Rattle.std.specs.Io.KnownBytes.{Appends}
use mathlib.Core.List.{IsPrefix}
use Rattle.byte_text.specs.Names.{Bytes}
use Rattle.world_model.specs.Seats.{Knows}
use Rattle.repl_stream.specs.declared.asks.Ask.{Ask}
use Rattle.repl_stream.specs.declared.parts.Part.{Part}
use Rattle.outside.specs.Causes.{Rose}
use Rattle.outside.specs.Doors.{OpenedAt}
use Rattle.serve_run.specs.declared.tends.ServeEnd.{ServeEnd}
use Rattle.serve_run.specs.declared.terms.Terms.{Terms}
use Rattle.serve_run.specs.Ends.{IsEnd, memory_line, door_line}
use Rattle.serve_run.specs.Loops.{Around, ServesReady}
use Rattle.serve_run.specs.Serves.{Finishes, listening_line}
use Rattle.serve_run.specs.Words.{Serve}

-- what the words ask of the loop
abbrev pub terms_of : Serve → Terms
terms_of s = record { limit = s.limit; idle = s.idle; shrink_at = s.shrink_at; followers = s.followers; until_end = s.until_end }

-- the same, with the door opened so
abbrev pub with_door : OpenedAt → Around → Around
with_door at a = record a { door = record a.door { opened = Some at } }

-- memory wanted before the door was opened, and nothing was done
pub record IsUnbegunLoop (old new : Around) (held held' : Option Bytes) (status : ℕ) : Type 0 where
  pub same : new ≡ old
  pub ended : IsEnd held held' 7 memory_line status

-- the door could not be opened, and is opened as it was before
pub record IsUnopenedLoop (old new : Around) (held held' : Option Bytes) (status : ℕ) : Type 0 where
  pub same : new ≡ record old { door = record old.door { faults = new.door.faults } }
  pub cause : Rose old.door.faults new.door.faults
  pub later : old.door.faults ≤ new.door.faults
  pub ended : IsEnd held held' 8 door_line status

-- the door was opened, and could not be watched, or the end of the server could not
pub record IsUnwatchedLoop (at : OpenedAt) (old new : Around) (held held' : Option Bytes) (status : ℕ) : Type 0 where
  pub same : new ≡ record (with_door at old) { wait = record old.wait { faults = new.wait.faults } }
  pub cause : Rose old.wait.faults new.wait.faults
  pub later : old.wait.faults ≤ new.wait.faults
  pub ended : IsEnd held held' 8 door_line status

-- the door was opened, and that could not be said
pub record IsUntoldLoop (at : OpenedAt) (old new : Around) (held held' : Option Bytes) (status : ℕ) : Type 0 where
  pub same : new ≡ with_door at old
  pub ended : status ≡ 4
  pub part : (part : Bytes) × IsPrefix part (listening_line at.addr) × Appends held held' part

-- the door was opened, that was said, and links were served up to an end
pub record IsServedLoop (told : Option ℕ) (answers : Knows → Ask → Part → Bytes → Type 0) (s : Serve) (old new : Around)
    (held held' : Option Bytes) (status : ℕ) : Type 0 where
  pub between : Option Bytes
  pub listening : Appends held between (listening_line s.port.addr)
  pub joined : ℕ
  pub starved : ℕ
  pub end : ServeEnd
  pub serves : ServesReady told answers (terms_of s) (with_door s.port old) new joined starved end
  pub finishes : Finishes end joined starved between held' status

-- what the words ask for was done, as far as this says
abbrev pub ServesLoop : Option ℕ → (Knows → Ask → Part → Bytes → Type 0) → Serve → Around → Around → Option Bytes → Option Bytes → ℕ → Type 0
ServesLoop told answers s old new held held' status =
    IsUnbegunLoop old new held held' status
    ⊎ (IsUnopenedLoop old new held held' status
    ⊎ (IsUnwatchedLoop s.port old new held held' status
    ⊎ (IsUntoldLoop s.port old new held held' status
    ⊎ IsServedLoop told answers s old new held held' status)))
