-- What `load` writes.
use Rattle.std.specs.Prelude.{ℕ, Option, ◌⊎◌}
use Rattle.byte_text.specs.Names.{Bytes}
use Rattle.serve_run.specs.Ends.{IsEnd, memory_line}
use Rattle.work_gen.specs.Outs.{IsLoadOut}
use Rattle.tile_top.specs.declared.workloads.LoadWords.{LoadWords}

-- the lines of the summary were written, or memory ran out
abbrev pub Loads : LoadWords → Option Bytes → Option Bytes → ℕ → Type 0
Loads w held held' status = ((out : Bytes) × IsLoadOut w.commands w.seed out × IsEnd held held' 0 out status) ⊎ IsEnd held held' 7 memory_line status
