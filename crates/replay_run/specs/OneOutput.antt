-- A script has one output.
use Rattle.std.specs.Prelude.{◌≡◌, ℕ, true, List, ◌++◌}
use mathlib.Core.List.{IsPrefix}
use Rattle.world_model.specs.Halls.{Hall}
use Rattle.replay_run.specs.TextLines.{TextLine}
use Rattle.replay_run.specs.Played.{Played}
use Rattle.replay_run.specs.declared.halts.Halt.TheVariants as halted
use Rattle.replay_run.specs.Traces.{Deed, Trace}
use Rattle.replay_run.specs.Scripts.{Does, Runs}
use Rattle.replay_run.specs.Undone.{IsUndone}

-- all but the length of the log, which nothing that is printed tells
abbrev pub silent : Hall → Hall
silent h = record h { logged = 0 }

abbrev pub but_the_log : Played → Played
but_the_log p = record p { hall = silent p.hall }

-- Lines that are done from the same on, over a disk that tells what it holds, print the same, and lead to the same but for the length of
-- the log: a side that is opened again has a length that is not determined.
abbrev pub LinesHaveOneOutput : Type 0
LinesHaveOneOutput = (before : ℕ) (p last end : Played) (ls : List TextLine) (t other : Trace)
    → Runs true before p ls t last → Runs true before p ls other end → (other.out ≡ t.out) × (but_the_log end ≡ but_the_log last)

-- what the first lines print is a beginning of what all of them print
abbrev pub FirstLinesPrintFirst : Type 0
FirstLinesPrintFirst = (before : ℕ) (p mid last : Played) (front more : List TextLine) (t all : Trace)
    → Runs true before p front t mid → Runs true before p (front ++ more) all last → IsPrefix t.out all.out

-- no line is done where it finds the log at its greatest length
abbrev pub SpentIsNotDone : Type 0
SpentIsNotDone = (before : ℕ) (p next : Played) (l : TextLine) (t : Trace) (deeds : List Deed) (last : Hall)
    → Does true before p l t next → IsUndone true halted.Spent before p l deeds last → ⊥
