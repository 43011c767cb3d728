-- The lines of a server: that its door was opened, and how its loop ended.
use Rattle.std.specs.Prelude.{◌⊎◌, ◌==◌, ℕ, [], ◌++◌, Option, codes, decimal, if◌then◌else◌}
use Rattle.byte_text.specs.Names.{Bytes}
use Rattle.serve_run.specs.declared.tends.ServeEnd.{ServeEnd}
use Rattle.serve_run.specs.declared.tends.ServeEnd.TheVariants as loop
use Rattle.serve_run.specs.Ends.{IsEnd, disk_line, memory_line, door_line, spent_line}

abbrev pub listening_line : Bytes → Bytes
listening_line addr = codes "listening " ++ addr ++ codes "\n"

-- how many links were joined, and how many of them were removed for want of memory, where there are any
abbrev pub served_lines : ℕ → ℕ → Bytes
served_lines joined starved = codes "served " ++ decimal joined ++ codes "\n"
    ++ (if starved == 0 then [] else codes "starved " ++ decimal starved ++ codes "\n")

-- the last lines of the loop's end were written, with its status; where the loop is done, there may have been no memory for them
abbrev pub Finishes : ServeEnd → ℕ → ℕ → Option Bytes → Option Bytes → ℕ → Type 0
Finishes loop.Done joined starved held held' status = IsEnd held held' 0 (served_lines joined starved) status ⊎ IsEnd held held' 7 memory_line status
Finishes loop.DoorFault joined starved held held' status = IsEnd held held' 8 door_line status
Finishes loop.Stopped joined starved held held' status = IsEnd held held' 5 disk_line status
Finishes loop.Spent joined starved held held' status = IsEnd held held' 9 spent_line status
Finishes loop.Memory joined starved held held' status = IsEnd held held' 7 memory_line status
