-- What a script does: each line some events of the machine, one behind another, and what is printed of them.
use Rattle.std.specs.Prelude.{◌≡◌, ℕ, ◌+◌, Bool, true, List, [], ◌∷◌, ◌++◌, length, Option, None, Some, map, codes, decimal}
use Rattle.byte_text.specs.Names.{Bytes}
use Rattle.byte_text.specs.Streams.{Stream, stream_of}
use Rattle.script_text.specs.Lines.{line}
use Rattle.script_text.specs.declared.lines.ScriptLine.{ScriptLine}
use Rattle.script_text.specs.declared.lines.ScriptLine.TheVariants as says
use Rattle.world_model.specs.Halls.{Hall}
use Rattle.world_model.specs.Histories.{Step, opening_hall, answer}
use Rattle.world_data.specs.Sound.{IsSoundWorld}
use Rattle.world_data.specs.declared.worlds.World.{World}
use Rattle.world_model.specs.declared.events.CallOutcome.TheVariants as called
use Rattle.world_model.specs.declared.events.Event.{Event}
use Rattle.world_model.specs.declared.events.Event.TheVariants as event
use Rattle.world_model.specs.declared.events.Outcome.{Outcome}
use Rattle.replay_run.specs.declared.readers.Reader.{Reader}
use Rattle.replay_run.specs.TextLines.{TextLine, size, IsShort}
use Rattle.replay_run.specs.Outputs.{printed}
use Rattle.replay_run.specs.Readers.{Unread, unread_of, asked_by, reader_of, with_unread, with_entered, without_reader}
use Rattle.replay_run.specs.Traces.{Deed, opens, does, Trace, no_trace, printing, joined}
use Rattle.replay_run.specs.Played.{Played}

-- what a script begins with: a world, the length of its log, and no session
abbrev pub opening : World → ℕ → Played
opening w logged = record { hall = opening_hall w logged; readers = [] }

-- an event of the machine, and what is printed of its ending
pub record Makes (h : Hall) (e : Event) (t : Trace) (next : Hall) : Type 0 where
  pub outcome : Outcome
  pub step : Step h e outcome next
  pub made : t.deeds ≡ does e outcome ∷ []
  pub prints : printed outcome ≡ Some t.out

-- events one behind another, and what is printed of their endings
abbrev pub MakesEach : Hall → List Event → Trace → Hall → Type 0
MakesEach h [] t last = (t ≡ no_trace) × (last ≡ h)
MakesEach h (e ∷ events) t last = (next : Hall) × (now : Trace) × (behind : Trace) × Makes h e now next × MakesEach next events behind last
    × (t ≡ joined now behind)

-- an event that leaves the readers as they are
abbrev pub MakesOne : Played → Event → Trace → Played → Type 0
MakesOne p e t next = Makes p.hall e t next.hall × (next.readers ≡ p.readers)

-- a session is entered, where there is room
abbrev pub Enters : Played → Trace → Played → Type 0
Enters p t next = (made : Makes p.hall event.Enter t next.hall) × (next.readers ≡ with_entered made.outcome p.readers)

-- a session is closed
abbrev pub Closes : Played → ℕ → Trace → Played → Type 0
Closes p n t next = Makes p.hall (event.Close n) t next.hall × (next.readers ≡ without_reader n p.readers)

-- a session makes a call at a moment for each thing that its stream asks for
abbrev pub Calls : Hall → ℕ → ℕ → Stream → Trace → Hall → Type 0
Calls h n m stream t next = MakesEach h (map (event.Call n m) (asked_by stream)) t next

-- bytes go on with what a reader has unread; a stream whose protocol is broken goes on no more
abbrev pub FedTo : Hall → ℕ → ℕ → Unread → Bytes → Trace → Hall → Unread → Type 0
FedTo h n m None bytes t next unread = (t ≡ printing (codes "dead\n")) × (next ≡ h) × (unread ≡ None)
FedTo h n m (Some rest) bytes t next unread = Calls h n m (stream_of (rest ++ bytes)) t next × (unread ≡ unread_of (stream_of (rest ++ bytes)).ending)

-- bytes are fed to the session's reader, where it has one
abbrev pub Feeds : Played → ℕ → ℕ → Bytes → Option Reader → Trace → Played → Type 0
Feeds p n m bytes None t next = (t ≡ printing (codes "gone\n")) × (next ≡ p)
Feeds p n m bytes (Some r) t next = (unread : Unread) × FedTo p.hall n m r.unread bytes t next.hall unread
    × (next.readers ≡ with_unread n unread p.readers)

-- the line of a world that was opened again
abbrev pub reopened_line : World → Bytes
reopened_line w = codes "reopened " ++ decimal (length w.objects) ++ codes " " ++ decimal (length w.channels) ++ codes "\n"

-- The hall is retired, and the disk is opened again, without readers. Where the disk tells what it holds, it is the world that was left;
-- the length of its log is what the side in use has then.
pub record Reopens (told : Bool) (p : Played) (deeds : List Deed) (next : Played) : Type 0 where
  pub left : Hall
  pub retired : Step p.hall event.Retire (answer called.Ok) left
  pub world : World
  pub logged : ℕ
  pub sound : IsSoundWorld world
  pub same : told ≡ true → world ≡ left.world
  pub begins : next ≡ opening world logged
  pub made : deeds ≡ does event.Retire (answer called.Ok) ∷ opens world logged ∷ []

-- what a line does, and its output
abbrev pub Acts : Bool → Played → ScriptLine → Trace → Played → Type 0
Acts told p says.Nothing t next = (t ≡ no_trace) × (next ≡ p)
Acts told p says.Enter t next = Enters p t next
Acts told p (says.Feed n m bytes) t next = Feeds p n m bytes (reader_of n p.readers) t next
Acts told p (says.Take n) t next = MakesOne p (event.Take n) t next
Acts told p (says.Tick m) t next = MakesOne p (event.Tick m) t next
Acts told p (says.Close n) t next = Closes p n t next
Acts told p says.Step t next = MakesOne p event.Rewrite t next
Acts told p says.Reopen t next = Reopens told p t.deeds next × (t.out ≡ reopened_line next.hall.world)

-- a line that stands behind this many bytes is one of a script: it keeps the limits, and says something
pub record IsLine (before : ℕ) (l : TextLine) : Type 0 where
  pub short : IsShort before l
  pub said : ScriptLine
  pub says_it : line l.bytes ≡ Some said

-- what the line does, and its output
pub record Does (told : Bool) (before : ℕ) (p : Played) (l : TextLine) (t : Trace) (next : Played) : Type 0 where
  pub short : IsShort before l
  pub said : ScriptLine
  pub says_it : line l.bytes ≡ Some said
  pub acts : Acts told p said t next

-- what lines do one behind another, with their output
abbrev pub Runs : Bool → ℕ → Played → List TextLine → Trace → Played → Type 0
Runs told before p [] t last = (t ≡ no_trace) × (last ≡ p)
Runs told before p (l ∷ ls) t last = (next : Played) × (now : Trace) × (behind : Trace) × Does told before p l now next
    × Runs told (before + size l) next ls behind last × (t ≡ joined now behind)
