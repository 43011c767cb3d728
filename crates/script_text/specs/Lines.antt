-- What a line of a script says. A line is read without its line feed.
use Rattle.std.specs.Prelude.{◌≡◌, ◌≤◌, ℕ, ◌==◌, ◌&&◌, Bool, true, not, nat_lt, List, [], ◌∷◌, length, Option, Some, None, if◌then◌else◌, option_map}
use Rattle.std.specs.Prelude.{option_and_then, codes, Result, Ok, Err}
use Rattle.std.specs.List.{list_all}
use Rattle.std.specs.Char.{is_ascii_graphic}
use Rattle.percent_encoding.specs.Percent.{percent_decode}
use Rattle.byte_text.specs.Names.{Bytes, same}
use Rattle.byte_text.specs.Numbers.{natural_within}
use Rattle.script_text.specs.Words.{words}
use Rattle.script_text.specs.declared.lines.ScriptLine.{ScriptLine}
use Rattle.script_text.specs.declared.lines.ScriptLine.TheVariants.{Nothing, Enter, Feed, Take, Tick, Close, Step, Reopen}
use Rattle.script_text.specs.declared.lines.LineFault.{LineFault}
use Rattle.script_text.specs.declared.lines.LineFault.TheVariants.{Outside, Memory}
use Rattle.script_text.specs.declared.lines.TheConstants.{MAX_LINE, LAST_MOMENT}

-- the most bytes of a line
abbrev pub max_line : ℕ
max_line = MAX_LINE

-- the last moment, in milliseconds
abbrev pub max_moment : ℕ
max_moment = LAST_MOMENT

-- the number of a session: canonical, of 32 bits
abbrev pub session : Bytes → Option ℕ
session w = natural_within 0 4294967295 w

-- a moment: canonical, up to the last one
abbrev pub moment : Bytes → Option ℕ
moment w = natural_within 0 max_moment w

-- one or more bytes from 0x21 to 0x7E
abbrev pub is_piece : Bytes → Bool
is_piece bytes = not (length bytes == 0) && list_all is_ascii_graphic bytes

-- such bytes with their escapes replaced
abbrev pub piece : Bytes → Option Bytes
piece bytes = if is_piece bytes then Some (percent_decode bytes) else None

-- `open`, `step`, `reopen`
abbrev pub bare_line : Bytes → Option ScriptLine
bare_line name =
    if same name (codes "open") then Some Enter else
    if same name (codes "step") then Some Step else
    if same name (codes "reopen") then Some Reopen else
    None

-- `take N`, `tick M`, `close N`
abbrev pub numbered_line : Bytes → Bytes → Option ScriptLine
numbered_line name number =
    if same name (codes "take") then option_map Take (session number) else
    if same name (codes "tick") then option_map Tick (moment number) else
    if same name (codes "close") then option_map Close (session number) else
    None

-- `feed N M BYTES`
abbrev pub feed_line : Bytes → Bytes → Bytes → Bytes → Option ScriptLine
feed_line name number at bytes =
    if same name (codes "feed") then
    option_and_then (λ n. option_and_then (λ m. option_map (λ text. Feed n m text) (piece bytes)) (moment at)) (session number) else
    None

abbrev pub line_of_words : List Bytes → Option ScriptLine
line_of_words [] = None
line_of_words (name ∷ []) = bare_line name
line_of_words (name ∷ number ∷ []) = numbered_line name number
line_of_words (name ∷ number ∷ at ∷ []) = None
line_of_words (name ∷ number ∷ at ∷ bytes ∷ []) = feed_line name number at bytes
line_of_words (name ∷ number ∷ at ∷ bytes ∷ more ∷ others) = None

-- a line that is empty or begins with `#` says nothing
abbrev pub is_silent : Bytes → Bool
is_silent [] = true
is_silent (b ∷ bytes) = b == 35

-- what a line says, where it is a line of a script
unfoldable pub line : Bytes → Option ScriptLine
line bytes =
    if nat_lt max_line (length bytes) then None else
    if is_silent bytes then Some Nothing else
    line_of_words (words bytes)

-- a moment that a line names is no later than the last one
abbrev pub KeepsMoment : ScriptLine → Type 0
KeepsMoment (Feed n m bytes) = m ≤ max_moment
KeepsMoment (Tick m) = m ≤ max_moment
KeepsMoment Nothing = Unit {0}
KeepsMoment Enter = Unit {0}
KeepsMoment (Take n) = Unit {0}
KeepsMoment (Close n) = Unit {0}
KeepsMoment Step = Unit {0}
KeepsMoment Reopen = Unit {0}

-- an answer that this says: nothing is outside, and what says something is said, or memory wants
abbrev pub IsAnswer : Option ScriptLine → Result ScriptLine LineFault → Type 0
IsAnswer says (Ok l) = says ≡ Some l
IsAnswer says (Err Outside) = says ≡ None
IsAnswer None (Err Memory) = ⊥
IsAnswer (Some l) (Err Memory) = Unit {0}
