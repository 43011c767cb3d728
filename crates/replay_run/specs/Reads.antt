-- What the reading of one line gives.
use Rattle.std.specs.Prelude.{◌≡◌, ◌≤◌, ℕ, ◌+◌, List, [], ◌∷◌, ◌++◌, length, Option, None, Some}
use Rattle.replay_run.specs.declared.streams.LineEnd.{LineEnd}
use Rattle.replay_run.specs.declared.streams.LineEnd.TheVariants.{Line, End, TooLong, ReadFault, Memory}
use Rattle.replay_run.specs.TextLines.{TextLine, lines, size, IsShort}

-- of what a source had left, where it tells, at most one line was read
abbrev pub IsOneLine : Option (List ℕ) → Option (List ℕ) → Type 0
IsOneLine None left = Unit {0}
IsOneLine (Some text) None = ⊥
IsOneLine (Some text) (Some rest) = (read : List ℕ) × (text ≡ read ++ rest) × (length (lines read) ≤ 1)

-- of what a source had left, where it tells, this was the first line, and the others are left
abbrev pub IsFirstLine : Option (List ℕ) → Option (List ℕ) → TextLine → Type 0
IsFirstLine None left l = Unit {0}
IsFirstLine (Some text) None l = ⊥
IsFirstLine (Some text) (Some rest) l = lines text ≡ l ∷ lines rest

-- a source had no line left, where it tells
abbrev pub HasNoLine : Option (List ℕ) → Option (List ℕ) → Type 0
HasNoLine None left = Unit {0}
HasNoLine (Some text) None = ⊥
HasNoLine (Some text) (Some rest) = (lines text ≡ []) × (rest ≡ [])

-- the first line that a source had left, where it tells, passes a limit behind this many bytes
abbrev pub IsTooLong : Option (List ℕ) → ℕ → Type 0
IsTooLong None used = Unit {0}
IsTooLong (Some text) used = (l : TextLine) × (behind : List TextLine) × (lines text ≡ l ∷ behind) × (IsShort used l → ⊥)

-- a line that keeps the limits was read, or it does not, or there is none; this of what a source had left and has left, where it
-- tells, and of the bytes of the script that were read before and are read now
abbrev pub OnLine : LineEnd → Option (List ℕ) → Option (List ℕ) → ℕ → ℕ → List ℕ → Type 0
OnLine Line left left' used now line = (l : TextLine) × IsFirstLine left left' l × (l.bytes ≡ line) × (now ≡ used + size l) × IsShort used l
OnLine End left left' used now line = HasNoLine left left'
OnLine TooLong left left' used now line = IsTooLong left used
OnLine ReadFault left left' used now line = Unit {0}
OnLine Memory left left' used now line = Unit {0}
