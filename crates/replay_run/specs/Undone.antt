-- Lines that are not done, and end a script: why, and what is made of them.
use Rattle.std.specs.Prelude.{◌≡◌, ◌≢◌, ◌⊎◌, ◌≤◌, ℕ, Bool, true, List, [], ◌∷◌, ◌++◌, Option, None, Some, is_some, map}
use Rattle.byte_text.specs.Names.{Bytes}
use Rattle.byte_text.specs.Streams.{stream_of}
use Rattle.script_text.specs.Lines.{line}
use Rattle.script_text.specs.declared.lines.ScriptLine.{ScriptLine}
use Rattle.script_text.specs.declared.lines.ScriptLine.TheVariants as says
use Rattle.outside.specs.declared.sides.Side.{Side}
use Rattle.world_data.specs.Limits.{most_logged}
use Rattle.world_model.specs.Halls.{Hall}
use Rattle.world_model.specs.Histories.{Step, answer}
use Rattle.world_model.specs.declared.events.CallOutcome.TheVariants as called
use Rattle.world_model.specs.declared.events.Event.{Event}
use Rattle.world_model.specs.declared.events.Event.TheVariants as event
use Rattle.world_model.specs.declared.events.Outcome.{Outcome}
use Rattle.journal.specs.declared.openings.OpenFault.{OpenFault}
use Rattle.journal.specs.declared.openings.OpenFault.TheVariants as fault_of
use Rattle.replay_run.specs.declared.halts.Halt.{Halt}
use Rattle.replay_run.specs.declared.halts.Halt.TheVariants as halted
use Rattle.replay_run.specs.declared.readers.Reader.{Reader}
use Rattle.replay_run.specs.TextLines.{TextLine, IsShort}
use Rattle.replay_run.specs.Outputs.{printed}
use Rattle.replay_run.specs.Readers.{Unread, asked_by, reader_of}
use Rattle.replay_run.specs.Traces.{Deed, does, Trace}
use Rattle.replay_run.specs.Played.{Played}
use Rattle.replay_run.specs.Scripts.{Makes, Reopens}

-- why a script is not played on where its disk is not opened
abbrev pub halt_at : OpenFault → Halt
halt_at (fault_of.Damaged side place) = halted.Damaged side place
halt_at fault_of.Disk = halted.DiskFault
halt_at fault_of.Memory = halted.Memory

-- the event finds the log at its greatest length, and is answered so; nothing is done
pub record IsSpent (h : Hall) (e : Event) : Type 0 where
  pub long : most_logged ≤ h.logged
  pub step : Step h e (answer called.Spent) h

-- memory wanted for an event, or for what is printed of its ending
abbrev pub IsLacking : Outcome → Type 0
IsLacking o = (o ≡ answer called.Memory) ⊎ (is_some (printed o) ≡ true)

-- an event that ends a script, and what is made of it: the log is at its greatest length, or fails; where memory wants, it was not
-- made, or memory wanted for it or for its text
abbrev pub Fails : Halt → Hall → Event → List Deed → Hall → Type 0
Fails halted.Spent h e deeds next = IsSpent h e × (next ≡ h) × (deeds ≡ does e (answer called.Spent) ∷ [])
Fails halted.DiskFault h e deeds next = Step h e (answer called.LogFault) next × (deeds ≡ does e (answer called.LogFault) ∷ [])
Fails (halted.Damaged side place) h e deeds next = ⊥
Fails halted.Memory h e deeds next = ((deeds ≡ []) × (next ≡ h))
    ⊎ ((outcome : Outcome) × Step h e outcome next × (deeds ≡ does e outcome ∷ []) × IsLacking outcome)

-- an ending of which nothing is printed, and why
abbrev pub IsUnprinted : Halt → Outcome → Type 0
IsUnprinted halted.Spent o = o ≡ answer called.Spent
IsUnprinted halted.DiskFault o = o ≡ answer called.LogFault
IsUnprinted (halted.Damaged side place) o = ⊥
IsUnprinted halted.Memory o = IsLacking o

-- memory wants, and nothing is made
abbrev pub WantsMemory : Halt → Hall → List Deed → Hall → Type 0
WantsMemory halt h deeds last = (halt ≡ halted.Memory) × (deeds ≡ []) × (last ≡ h)

-- of these events some first ones are made, and the next one ends the script
abbrev pub FailsEach : Halt → Hall → List Event → List Deed → Hall → Type 0
FailsEach halt h [] deeds last = WantsMemory halt h deeds last
FailsEach halt h (e ∷ events) deeds last = Fails halt h e deeds last
    ⊎ ((next : Hall) × (now : Trace) × (behind : List Deed) × Makes h e now next × FailsEach halt next events behind last
    × (deeds ≡ now.deeds ++ behind))

-- so does a call that more bytes of a stream bring
abbrev pub FedFails : Halt → Hall → ℕ → ℕ → Unread → Bytes → List Deed → Hall → Type 0
FedFails halt h n m None bytes deeds last = WantsMemory halt h deeds last
FedFails halt h n m (Some rest) bytes deeds last = FailsEach halt h (map (event.Call n m) (asked_by (stream_of (rest ++ bytes)))) deeds last

abbrev pub FeedsFails : Halt → Hall → ℕ → ℕ → Bytes → Option Reader → List Deed → Hall → Type 0
FeedsFails halt h n m bytes None deeds last = WantsMemory halt h deeds last
FeedsFails halt h n m bytes (Some r) deeds last = FedFails halt h n m r.unread bytes deeds last

-- the retirement fails; or the disk is not opened behind it, which is not damaged where it tells what it holds; or it was, and memory wants
abbrev pub ReopenFails : Bool → Halt → Played → List Deed → Hall → Type 0
ReopenFails told halt p deeds last = Fails halt p.hall event.Retire deeds last
    ⊎ (((halt ≢ halted.Spent) × (told ≡ true → (side : Side) (place : ℕ) → halt ≢ halted.Damaged side place)
    × Step p.hall event.Retire (answer called.Ok) last × (deeds ≡ does event.Retire (answer called.Ok) ∷ []))
    ⊎ ((halt ≡ halted.Memory) × (next : Played) × Reopens told p deeds next × (last ≡ next.hall)))

-- what is made of a line that is not done
abbrev pub ActsFail : Bool → Halt → Played → ScriptLine → List Deed → Hall → Type 0
ActsFail told halt p says.Nothing deeds last = WantsMemory halt p.hall deeds last
ActsFail told halt p says.Enter deeds last = Fails halt p.hall event.Enter deeds last
ActsFail told halt p (says.Feed n m bytes) deeds last = FeedsFails halt p.hall n m bytes (reader_of n p.readers) deeds last
ActsFail told halt p (says.Take n) deeds last = Fails halt p.hall (event.Take n) deeds last
ActsFail told halt p (says.Tick m) deeds last = Fails halt p.hall (event.Tick m) deeds last
ActsFail told halt p (says.Close n) deeds last = Fails halt p.hall (event.Close n) deeds last
ActsFail told halt p says.Step deeds last = Fails halt p.hall event.Rewrite deeds last
ActsFail told halt p says.Reopen deeds last = ReopenFails told halt p deeds last

-- the line of these bytes is not done; where memory wants it may not have been read
abbrev pub FailsOn : Bool → Halt → Played → Bytes → List Deed → Hall → Type 0
FailsOn told halt p bytes deeds last = WantsMemory halt p.hall deeds last ⊎ ((said : ScriptLine) × (line bytes ≡ Some said)
    × ActsFail told halt p said deeds last)

-- a line that stands behind this many bytes is not done
pub record IsUndone (told : Bool) (halt : Halt) (before : ℕ) (p : Played) (l : TextLine) (deeds : List Deed) (last : Hall) : Type 0 where
  pub short : IsShort before l
  pub fails : FailsOn told halt p l.bytes deeds last
