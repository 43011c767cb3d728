-- What a whole script does. Where a source tells its text the script is that text, and else it is some list of lines; where a sink tells
-- what it holds, this is what was written. At the end the hall is retired, and `Ends` is what then holds of the disk, by all that was made;
-- where all was done, `Holds` is that it holds the world that was left. `Back` is what is left of a disk that was not opened, by the halt.
use Rattle.std.specs.Prelude.{◌≡◌, ◌≢◌, ◌⊎◌, ◌≤◌, is_some, ℕ, ◌+◌, Bool, true, List, [], ◌∷◌, ◌++◌, length, Option, None, Some}
use Rattle.std.specs.Io.KnownBytes.{Appends}
use mathlib.Core.List.{IsPrefix}
use Rattle.byte_text.specs.Names.{Bytes}
use Rattle.script_text.specs.Lines.{line}
use Rattle.script_text.specs.declared.lines.ScriptLine.{ScriptLine}
use Rattle.script_text.specs.declared.lines.ScriptLine.TheVariants as says
use Rattle.outside.specs.Sides.{Sides}
use Rattle.outside.specs.declared.sides.Side.{Side}
use Rattle.world_data.specs.declared.worlds.World.{World}
use Rattle.world_model.specs.Halls.{Hall}
use Rattle.world_model.specs.Histories.{Step, answer}
use Rattle.world_model.specs.declared.events.CallOutcome.{CallOutcome}
use Rattle.world_model.specs.declared.events.CallOutcome.TheVariants as called
use Rattle.world_model.specs.declared.events.Event.TheVariants as event
use Rattle.replay_run.specs.TextLines.{TextLine, lines, size, size_of_all, IsShort}
use Rattle.replay_run.specs.Reads.{IsFirstLine, HasNoLine}
use Rattle.replay_run.specs.Traces.{Deed, does, Trace}
use Rattle.replay_run.specs.Played.{Played}
use Rattle.replay_run.specs.Scripts.{opening, Acts, IsLine, Does, Runs, reopened_line}
use Rattle.replay_run.specs.Openings.{Opens, IsDamagedAt}
use Rattle.replay_run.specs.Undone.{FailsOn, IsUndone}
use Rattle.replay_run.specs.declared.turns.Acted.{Acted}
use Rattle.replay_run.specs.declared.turns.Acted.TheVariants.{Printed, Reopen, Outside}
use Rattle.replay_run.specs.declared.halts.Halt.{Halt}
use Rattle.replay_run.specs.declared.halts.Halt.TheVariants as halted
use Rattle.replay_run.specs.declared.ends.ReplayEnd.{ReplayEnd}
use Rattle.replay_run.specs.declared.ends.ReplayEnd.TheVariants as ended
use Rattle.replay_run.specs.declared.turns.Turn.{Turn}
use Rattle.replay_run.specs.declared.turns.Turn.TheVariants.{Next, End, Script, Again, ReadFault, WriteFault, Halted}

-- lines at the front of a script were done, which made these deeds; their output was written, and then this
pub record AreDone (told : Bool) (first : Played) (held0 held : Option Bytes) (front : List TextLine) (last : Played) (deeds : List Deed)
    (tail : Bytes) : Type 0 where
  pub out : Bytes
  pub runs : Runs told 0 first front (record { deeds = deeds; out = out }) last
  pub written : Appends held0 held (out ++ tail)

-- the hall is retired, and answers so
pub record Retires (h : Hall) (answered : CallOutcome) : Type 0 where
  pub end : Hall
  pub step : Step h event.Retire (answer answered) end

abbrev pub retired : CallOutcome → List Deed
retired answered = does event.Retire (answer answered) ∷ []

-- the hall is retired at last, unless it was before
abbrev pub Closes : Hall → List Deed → Type 0
Closes h closing = ((answered : CallOutcome) × Retires h answered × (closing ≡ retired answered)) ⊎ ((h.stopped ≡ true) × (closing ≡ []))

-- of these bytes at most one line was read, and the others are left
abbrev pub IsReadOf : Bytes → Option Bytes → Type 0
IsReadOf behind left = (read : Bytes) × (rest : Bytes) × (behind ≡ read ++ rest) × (left ≡ Some rest) × (length (lines read) ≤ 1)

-- the text has these lines, and then one that is none of a script, behind which nothing was read
pub record IsFaultBehind (text : Bytes) (front : List TextLine) (left : Option Bytes) : Type 0 where
  pub behind : Bytes
  pub is : lines text ≡ front ++ lines behind
  pub read : IsReadOf behind left
  pub l : TextLine
  pub others : List TextLine
  pub next : lines behind ≡ l ∷ others
  pub none : IsLine (size_of_all front) l → ⊥

-- the text has these lines, and of what is behind them at most one line was read
pub record IsReadBehind (text : Bytes) (front : List TextLine) (left : Option Bytes) : Type 0 where
  pub behind : Bytes
  pub is : lines text ≡ front ++ lines behind
  pub read : IsReadOf behind left

-- the text has these lines and then this one, and the others are left
abbrev pub IsReadWith : Bytes → List TextLine → TextLine → Option Bytes → Type 0
IsReadWith text front l left = (rest : Bytes) × (lines text ≡ front ++ l ∷ lines rest) × (left ≡ Some rest)

-- the script was read to its end, each of its lines was done, and their output was written; the hall was retired, with this answer
pub record IsRead (told : Bool) (first : Played) (Ends : List Deed
    → Type 0) (left0 left held0 held : Option Bytes) (answered : CallOutcome) (tail : Bytes) : Type 0 where
  pub all : List TextLine
  pub last : Played
  pub deeds : List Deed
  pub done : AreDone told first held0 held all last deeds tail
  pub closed : Retires last.hall answered
  pub ends : Ends (deeds ++ retired answered)
  pub told_is : (text : Bytes) → left0 ≡ Some text → (lines text ≡ all) × (left ≡ Some [])

-- and all was done; the disk holds the world that was left
pub record IsDone (told : Bool) (first : Played) (Holds : World → Type 0) (Ends : List Deed
    → Type 0) (left0 left held0 held : Option Bytes) : Type 0 where
  pub read : IsRead told first Ends left0 left held0 held called.Ok []
  pub holds : Holds read.last.hall.world

-- the line of this number, counted from 1, is the first that is none of a script; the lines before it were done and their output
-- written, and then this
pub record IsFaulty (told : Bool) (first : Played) (Ends : List Deed
    → Type 0) (left0 left held0 held : Option Bytes) (number : ℕ) (tail : Bytes) : Type 0 where
  pub front : List TextLine
  pub last : Played
  pub deeds : List Deed
  pub done : AreDone told first held0 held front last deeds tail
  pub numbered : number ≡ length front + 1
  pub closing : List Deed
  pub closed : Closes last.hall closing
  pub ends : Ends (deeds ++ closing)
  pub told_is : (text : Bytes) → left0 ≡ Some text → IsFaultBehind text front left

-- the lines before the last one that was read were done and their output written, and then this
pub record IsBefore (told : Bool) (first : Played) (Ends : List Deed → Type 0) (left0 left held0 held : Option Bytes) (tail : Bytes) : Type 0 where
  pub front : List TextLine
  pub last : Played
  pub deeds : List Deed
  pub done : AreDone told first held0 held front last deeds tail
  pub closing : List Deed
  pub closed : Closes last.hall closing
  pub ends : Ends (deeds ++ closing)
  pub told_is : (text : Bytes) → left0 ≡ Some text → IsReadBehind text front left

-- the lines before the last one that was read were done and their output written; this one was done, and a part of its output written
pub record IsWithinLine (told : Bool) (first : Played) (Ends : List Deed → Type 0) (left0 left held0 held : Option Bytes) : Type 0 where
  pub front : List TextLine
  pub before : Played
  pub deeds : List Deed
  pub part : Bytes
  pub done : AreDone told first held0 held front before deeds part
  pub l : TextLine
  pub now : Trace
  pub last : Played
  pub does_it : Does told (size_of_all front) before l now last
  pub is_part : IsPrefix part now.out
  pub closing : List Deed
  pub closed : Closes last.hall closing
  pub ends : Ends ((deeds ++ now.deeds) ++ closing)
  pub told_is : (text : Bytes) → left0 ≡ Some text → IsReadWith text front l left

-- the lines before the last one that was read were done and their output written, and then this; that one was not done
pub record IsHalted (told : Bool) (first : Played) (Ends : List Deed
    → Type 0) (left0 left held0 held : Option Bytes) (halt : Halt) (tail : Bytes) : Type 0 where
  pub front : List TextLine
  pub before : Played
  pub deeds : List Deed
  pub done : AreDone told first held0 held front before deeds tail
  pub l : TextLine
  pub part : List Deed
  pub last : Hall
  pub undone : IsUndone told halt (size_of_all front) before l part last
  pub closing : List Deed
  pub closed : Closes last closing
  pub ends : Ends ((deeds ++ part) ++ closing)
  pub told_is : (text : Bytes) → left0 ≡ Some text → IsReadWith text front l left

-- a script ended before its end: at a line that was not done, or for want of memory to read it; or the disk failed when the hall was
-- retired behind all lines
abbrev pub IsCut : Bool → Played → (List Deed → Type 0) → Option Bytes → Option Bytes → Option Bytes → Option Bytes → Halt → Bytes → Type 0
IsCut told first Ends left0 left held0 held halt tail = IsHalted told first Ends left0 left held0 held halt tail
    ⊎ (((halt ≡ halted.Memory) × IsBefore told first Ends left0 left held0 held tail)
    ⊎ ((halt ≡ halted.DiskFault) × IsRead told first Ends left0 left held0 held called.LogFault tail))

-- one line of what a source has left: it was done and its output written, or there is none, or it is none of a script, or all is to be
-- opened again, or its output was not wholly written, or it was not done; the deeds that were made, and the bytes of the script that
-- were read before it and are read now
abbrev pub OnTurn : Bool → Turn → Option Bytes → Option Bytes → Option Bytes → Option Bytes → Played → Played → ℕ → ℕ → List Deed → Type 0
OnTurn told Next left left' held held' p p' used used' deeds =
    (l : TextLine) × (out : Bytes) × IsFirstLine left left' l × Does told used p l (record { deeds = deeds; out = out }) p' × (used' ≡ used + size l)
    × Appends held held' out
OnTurn told End left left' held held' p p' used used' deeds = (held' ≡ held) × (p' ≡ p) × (deeds ≡ []) × HasNoLine left left'
OnTurn told Script left left' held held' p p' used used' deeds = (held' ≡ held) × (p' ≡ p) × (deeds ≡ []) × ((text : Bytes) → left ≡ Some text →
    (l : TextLine) × (behind : List TextLine) × (lines text ≡ l ∷ behind) × (IsLine used l → ⊥))
OnTurn told Again left left' held held' p p' used used' deeds = (held' ≡ held) × (p' ≡ p) × (deeds ≡ []) × ((l : TextLine)
    × IsFirstLine left left' l × IsShort used l × (line l.bytes ≡ Some says.Reopen) × (used' ≡ used + size l))
OnTurn told WriteFault left left' held held' p p' used used' deeds =
    (l : TextLine) × (out : Bytes) × (part : Bytes) × IsFirstLine left left' l × Does told used p l (record { deeds = deeds; out = out }) p'
    × IsPrefix part out × Appends held held' part
OnTurn told ReadFault left left' held held' p p' used used' deeds = (held' ≡ held) × (p' ≡ p) × (deeds ≡ [])
OnTurn told (Halted halt) left left' held held' p p' used used' deeds = (held' ≡ held)
    × (((l : TextLine) × IsFirstLine left left' l × IsUndone told halt used p l deeds p'.hall) ⊎ ((halt ≡ halted.Memory) × (p' ≡ p) × (deeds ≡ [])))

-- how the play of a script ended; the disk was opened
abbrev pub OnPlay : Bool → Played → (World → Type 0) → (List Deed
    → Type 0) → ReplayEnd → Option Bytes → Option Bytes → Option Bytes → Option Bytes → Type 0
OnPlay told first Holds Ends ended.Done left0 left held0 held = IsDone told first Holds Ends left0 left held0 held
OnPlay told first Holds Ends (ended.Script number) left0 left held0 held = IsFaulty told first Ends left0 left held0 held number []
OnPlay told first Holds Ends ended.ReadFault left0 left held0 held = IsBefore told first Ends left0 left held0 held []
OnPlay told first Holds Ends ended.WriteFault left0 left held0 held = IsWithinLine told first Ends left0 left held0 held
OnPlay told first Holds Ends (ended.Halted halt) left0 left held0 held = IsCut told first Ends left0 left held0 held halt []
OnPlay told first Holds Ends (ended.Unopened halt) left0 left held0 held = ⊥

-- what was done of the line of these bytes: all, with its output, or it opens all again, and nothing is done so far, or it is none of a
-- script
abbrev pub ActsOn : Bool → Played → Played → Bytes → List Deed → Acted → Type 0
ActsOn told p next bytes deeds (Printed out) = (said : ScriptLine) × (line bytes ≡ Some said)
    × Acts told p said (record { deeds = deeds; out = out }) next
ActsOn told p next bytes deeds Reopen = (line bytes ≡ Some says.Reopen) × (next ≡ p) × (deeds ≡ [])
ActsOn told p next bytes deeds Outside = (line bytes ≡ None) × (next ≡ p) × (deeds ≡ [])

-- a line that was read, and done
abbrev pub OnLineDone : Bool → Turn → Option Bytes → Option Bytes → Played → Played → Bytes → List Deed → Type 0
OnLineDone told Next held held' p p' bytes deeds = (out : Bytes) × ActsOn told p p' bytes deeds (Printed out) × Appends held held' out
OnLineDone told WriteFault held held' p p' bytes deeds = (out : Bytes) × (part : Bytes) × ActsOn told p p' bytes deeds (Printed out)
    × IsPrefix part out × Appends held held' part
OnLineDone told Script held held' p p' bytes deeds = (held' ≡ held) × ActsOn told p p' bytes deeds Outside
OnLineDone told Again held held' p p' bytes deeds = (held' ≡ held) × ActsOn told p p' bytes deeds Reopen
OnLineDone told (Halted halt) held held' p p' bytes deeds = (held' ≡ held) × FailsOn told halt p bytes deeds p'.hall
OnLineDone told ReadFault held held' p p' bytes deeds = ⊥
OnLineDone told End held held' p p' bytes deeds = ⊥

-- the line of a world that was opened again was written, or a part of it, or memory wanted for it
abbrev pub IsTold : Turn → Option Bytes → Option Bytes → World → Type 0
IsTold Next held held' w = Appends held held' (reopened_line w)
IsTold WriteFault held held' w = (part : Bytes) × IsPrefix part (reopened_line w) × Appends held held' part
IsTold (Halted halt) held held' w = (halt ≡ halted.Memory) × (held' ≡ held)
IsTold End held held' w = ⊥
IsTold Script held held' w = ⊥
IsTold Again held held' w = ⊥
IsTold ReadFault held held' w = ⊥

-- how a script ends with its last turn, at the line of this number, where its hall was retired with this answer
abbrev pub end_of : Turn → ℕ → CallOutcome → ReplayEnd
end_of End number called.Ok = ended.Done
end_of End number answered = ended.Halted halted.DiskFault
end_of Script number answered = ended.Script number
end_of ReadFault number answered = ended.ReadFault
end_of WriteFault number answered = ended.WriteFault
end_of (Halted halt) number answered = ended.Halted halt
end_of Next number answered = ended.Halted halted.Memory
end_of Again number answered = ended.Halted halted.Memory

-- a disk was not opened: memory wanted, or it failed, or it is damaged where it says so; no line was read, and nothing written; and what
-- is left of the disk
pub record IsShut (seen : Option Sides) (Back : Halt → Type 0) (left0 left held0 held : Option Bytes) (halt : Halt) : Type 0 where
  pub unspent : halt ≢ halted.Spent
  pub back : Back halt
  pub damaged : (side : Side) (place : ℕ) → halt ≡ halted.Damaged side place → IsDamagedAt seen side place
  pub unread : left ≡ left0
  pub unwritten : held ≡ held0

-- a disk was not opened, or with some world and length of its log, and then the script was played
abbrev pub OnReplay : Option Sides → (Halt → Type 0) → (World → Type 0) → (World → ℕ → List Deed
    → Type 0) → ReplayEnd → Option Bytes → Option Bytes → Option Bytes → Option Bytes → Type 0
OnReplay seen Back Holds Ends end left0 left held0 held = ((halt : Halt) × (end ≡ ended.Unopened halt)
    × IsShut seen Back left0 left held0 held halt)
    ⊎ ((w : World) × (logged : ℕ) × Opens seen w logged
    × OnPlay (is_some seen) (opening w logged) Holds (Ends w logged) end left0 left held0 held)
