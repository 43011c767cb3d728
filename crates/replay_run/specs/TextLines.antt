-- The lines of a text.
use Rattle.std.specs.Prelude.{ℕ, ◌+◌, ◌≤◌, ◌==◌, Bool, true, false, if◌then◌else◌, List, [], ◌∷◌, length}
use Rattle.script_text.specs.Lines.{max_line}
use Rattle.replay_run.specs.declared.streams.TheConstants.{MAX_SCRIPT}

-- a line: its bytes without the line feed, and whether a line feed ends it
pub record TextLine : Type 0 where
  pub bytes : List ℕ
  pub is_ended : Bool

-- the lines with one byte more in front of the first
abbrev pub in_front : ℕ → List TextLine → List TextLine
in_front b [] = record { bytes = b ∷ []; is_ended = false } ∷ []
in_front b (l ∷ ls) = record l { bytes = b ∷ l.bytes } ∷ ls

-- the lines of a text; a line feed ends a line, and the last line may lack it
abbrev pub lines : List ℕ → List TextLine
lines [] = []
lines (b ∷ bytes) = if b == 10 then record { bytes = []; is_ended = true } ∷ lines bytes else in_front b (lines bytes)

-- the bytes that a line takes in its text
abbrev pub size : TextLine → ℕ
size l = length l.bytes + (if l.is_ended then 1 else 0)

-- the bytes that these lines take
abbrev pub size_of_all : List TextLine → ℕ
size_of_all [] = 0
size_of_all (l ∷ ls) = size l + size_of_all ls

-- the greatest number of bytes of a script
abbrev pub max_script : ℕ
max_script = MAX_SCRIPT

-- a line that stands behind this many bytes keeps the limits
pub record IsShort (before : ℕ) (l : TextLine) : Type 0 where
  pub in_line : length l.bytes ≤ max_line
  pub in_script : before + size l ≤ max_script
