-- What the program promises of its words and its status.
use Rattle.std.specs.Prelude.{◌≡◌, ◌⊎◌, ℕ, Bool, true, List, [], ◌∷◌, ◌++◌, length, Option, is_some, codes, decimal}
use mathlib.Core.List.{IsPrefix}
use Rattle.byte_text.specs.Names.{Bytes}
use Rattle.outside.specs.Sides.{Sides}
use Rattle.outside.specs.declared.sides.Side.{Side}
use Rattle.outside.specs.declared.sides.Side.TheVariants.{A, B}
use Rattle.world_data.specs.declared.worlds.World.{World}
use Rattle.serve_run.specs.Ends.{IsEnd, disk_line, memory_line, spent_line}
use Rattle.serve_run.specs.Options.{begins_with}
use Rattle.serve_run.specs.Words.{begins_to_serve}
use Rattle.replay_run.specs.Traces.{Deed}
use Rattle.replay_run.specs.Played.{Played}
use Rattle.replay_run.specs.Scripts.{opening}
use Rattle.replay_run.specs.Openings.{Opens}
use Rattle.replay_run.specs.Plays.{IsDone, IsFaulty, IsBefore, IsWithinLine, IsCut, IsShut}
use Rattle.replay_run.specs.declared.ends.ReplayEnd.{ReplayEnd}
use Rattle.replay_run.specs.declared.ends.ReplayEnd.TheVariants as ended
use Rattle.replay_run.specs.declared.halts.Halt.{Halt}
use Rattle.replay_run.specs.declared.halts.Halt.TheVariants as halted

-- the last lines
abbrev pub usage_line : Bytes
usage_line = codes "usage: tile_server replay | check | load N SEED | serve ADDR [--sessions N] | follow ADDR | ws ADDR [--sessions N] | backtest\n"

abbrev pub script_line : ℕ → Bytes
script_line number = codes "script fault at line " ++ decimal number ++ codes "\n"

abbrev pub read_line : Bytes
read_line = codes "read fault\n"

abbrev pub side_name : Side → Bytes
side_name A = codes "A"
side_name B = codes "B"

abbrev pub damaged_line : Side → ℕ → Bytes
damaged_line side place = codes "damaged side " ++ side_name side ++ codes " at " ++ decimal place ++ codes "\n"

-- the status of what goes on no more, and its line
abbrev pub status_of : Halt → ℕ
status_of halted.Spent = 9
status_of halted.DiskFault = 5
status_of (halted.Damaged side place) = 6
status_of halted.Memory = 7

abbrev pub line_of : Halt → Bytes
line_of halted.Spent = spent_line
line_of halted.DiskFault = disk_line
line_of (halted.Damaged side place) = damaged_line side place
line_of halted.Memory = memory_line

-- a side of a disk is damaged: of the lines of what goes on no more, that of a damage alone is made in memory
abbrev pub IsDamage : Halt → Type 0
IsDamage halt = (side : Side) × (place : ℕ) × (halt ≡ halted.Damaged side place)

-- its last line was written, or in part; or memory wanted for it, and that was
abbrev pub IsHaltEnd : Halt → Option Bytes → Option Bytes → ℕ → Type 0
IsHaltEnd halt held held' status = IsEnd held held' (status_of halt) (line_of halt) status ⊎ (IsDamage halt × IsEnd held held' 7 memory_line status)

-- the end of a script: its last line is written behind the output
abbrev pub IsReplayEnd : ReplayEnd → Option Bytes → Option Bytes → ℕ → Type 0
IsReplayEnd ended.Done held held' status = (status ≡ 0) × (held' ≡ held)
IsReplayEnd (ended.Script number) held held' status = IsEnd held held' 2 (script_line number) status ⊎ IsEnd held held' 7 memory_line status
IsReplayEnd ended.ReadFault held held' status = IsEnd held held' 3 read_line status
IsReplayEnd ended.WriteFault held held' status = (status ≡ 4) × (held' ≡ held)
IsReplayEnd (ended.Halted halt) held held' status = IsHaltEnd halt held held' status
IsReplayEnd (ended.Unopened halt) held held' status = IsHaltEnd halt held held' status

-- writing failed: in the output of the last line that was read, or in the last line of the status that was due
abbrev pub IsStopped : Bool → Played → (List Deed → Type 0) → Type 0 → Option Bytes → Option Bytes → Option Bytes → Option Bytes → Type 0
IsStopped told first Ends ReadFailed left0 left held0 held = IsWithinLine told first Ends left0 left held0 held
    ⊎ (((number : ℕ) × (part : Bytes) × IsPrefix part (script_line number) × IsFaulty told first Ends left0 left held0 held number part)
    ⊎ (((part : Bytes) × ((ReadFailed × IsPrefix part read_line) ⊎ IsPrefix part memory_line) × IsBefore told first Ends left0 left held0 held part)
    ⊎ ((halt : Halt) × (part : Bytes) × (IsPrefix part (line_of halt) ⊎ (IsDamage halt × IsPrefix part memory_line))
    × IsCut told first Ends left0 left held0 held halt part)))

-- A list of words that asks for nothing: the line on the usage was written; or memory wanted for reading what stands behind `serve`, `ws`,
-- `load` or `follow`, and that was.
abbrev pub IsUsage : List Bytes → Option Bytes → Option Bytes → ℕ → Type 0
IsUsage words held held' status = IsEnd held held' 1 usage_line status
    ⊎ (((begins_to_serve words ≡ true) ⊎ ((begins_with (codes "load") words ≡ true) ⊎ (begins_with (codes "follow") words ≡ true)))
    × IsEnd held held' 7 memory_line status)

-- the program's words are this one alone
abbrev pub IsReplay : List Bytes → Type 0
IsReplay words = words ≡ codes "replay" ∷ []

abbrev pub IsCheck : List Bytes → Type 0
IsCheck words = words ≡ codes "check" ∷ []

-- What a script's play did and its status says: done, or a line that is none of a script, or a read or a write that failed, or one that
-- was not done. At each status the lines before the last one that was read were done, and their whole output was written before it was
-- read. At 7 memory wanted, also for the line of a damage or of a line that is none of a script. `ReadFailed` is what holds where a read failed,
-- `Holds` that the disk holds a world.
pub record Plays (told : Bool) (first : Played) (Holds : World → Type 0) (Ends : List Deed
    → Type 0) (ReadFailed : Type 0) (left0 left held0 held : Option Bytes) (status : ℕ) : Type 0 where
  pub done : status ≡ 0 → IsDone told first Holds Ends left0 left held0 held
  pub script : status ≡ 2 → (number : ℕ) × IsFaulty told first Ends left0 left held0 held number (script_line number)
  pub read : status ≡ 3 → IsBefore told first Ends left0 left held0 held read_line
  pub write : status ≡ 4 → IsStopped told first Ends ReadFailed left0 left held0 held
  pub disk : status ≡ 5 → IsCut told first Ends left0 left held0 held halted.DiskFault disk_line
  pub damaged : status ≡ 6 → (side : Side) × (place : ℕ)
      × IsCut told first Ends left0 left held0 held (halted.Damaged side place) (damaged_line side place)
  pub memory : status ≡ 7 → IsBefore told first Ends left0 left held0 held memory_line
      ⊎ ((halt : Halt) × ((halt ≡ halted.Memory) ⊎ IsDamage halt) × IsCut told first Ends left0 left held0 held halt memory_line)
  pub spent : status ≡ 9 → IsCut told first Ends left0 left held0 held halted.Spent spent_line
  pub few : (status ≡ 0) ⊎ ((status ≡ 2) ⊎ ((status ≡ 3) ⊎ ((status ≡ 4) ⊎ ((status ≡ 5) ⊎ ((status ≡ 6) ⊎ ((status ≡ 7) ⊎ (status ≡ 9)))))))

-- A disk was not opened, and the status says why: a side of it is damaged, or a call of it failed, or memory wanted. Nothing was read. `Back`
-- is what is left of the disk, by the halt.
pub record IsUnopened (seen : Option Sides) (Back : Halt → Type 0) (left0 left held0 held : Option Bytes) (status : ℕ) : Type 0 where
  pub why : Halt
  pub between : Option Bytes
  pub shut : IsShut seen Back left0 left held0 between why
  pub ended : IsHaltEnd why between held status

-- the disk was not opened, or with some world and length of its log, and then the script was played
abbrev pub Replays : Option Sides → (Halt → Type 0) → (World → Type 0) → (World → ℕ → List Deed
    → Type 0) → Type 0 → Option Bytes → Option Bytes → Option Bytes → Option Bytes → ℕ → Type 0
Replays seen Back Holds Ends ReadFailed left0 left held0 held status = IsUnopened seen Back left0 left held0 held status
    ⊎ ((w : World) × (logged : ℕ) × Opens seen w logged
    × Plays (is_some seen) (opening w logged) Holds (Ends w logged) ReadFailed left0 left held0 held status)

-- the line of a world and the generation of its log
abbrev pub check_line : World → ℕ → Bytes
check_line w generation = codes "objects " ++ decimal (length w.objects) ++ codes " channels " ++ decimal (length w.channels) ++ codes " generation "
    ++ decimal generation ++ codes "\n"
