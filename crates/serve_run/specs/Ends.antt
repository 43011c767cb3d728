-- The last line of a status.
use Rattle.std.specs.Prelude.{◌≡◌, ◌⊎◌, ℕ, codes, Option}
use Rattle.std.specs.Io.KnownBytes.{Appends}
use mathlib.Core.List.{IsPrefix}
use Rattle.byte_text.specs.Names.{Bytes}

abbrev pub disk_line : Bytes
disk_line = codes "disk fault\n"

abbrev pub memory_line : Bytes
memory_line = codes "out of memory\n"

abbrev pub door_line : Bytes
door_line = codes "door fault\n"

abbrev pub spent_line : Bytes
spent_line = codes "spent\n"

-- the last line was written whole at this status, or in part at that of a write fault
abbrev pub IsEnd : Option Bytes → Option Bytes → ℕ → Bytes → ℕ → Type 0
IsEnd held held' status last ended = ((ended ≡ status) × Appends held held' last) ⊎ ((ended ≡ 4)
    × ((part : Bytes) × IsPrefix part last × Appends held held' part))
