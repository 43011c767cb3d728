-- What the workload writes.
use Rattle.std.specs.Prelude.{◌≡◌, ℕ}
use Rattle.byte_text.specs.Names.{Bytes}
use Rattle.world_data.specs.Worlds.{empty_world}
use Rattle.world_model.specs.Halls.{Hall}
use Rattle.world_model.specs.Histories.{opening_hall}
use Rattle.work_gen.specs.Drives.{Drives}
use Rattle.work_gen.specs.Summaries.{summary_text}
use Rattle.work_gen.specs.declared.summaries.Summary.{Summary}

-- the lines of the summary of so many commands from a seed, by the steps of a machine of an empty world
pub record IsLoadOut (n seed : ℕ) (out : Bytes) : Type 0 where
  pub last : Hall
  pub summary : Summary
  pub drives : Drives n seed (opening_hall empty_world 0) last summary
  pub is : out ≡ summary_text summary

-- a number and a seed have one such text
abbrev pub LoadOutsAreOne : Type 0
LoadOutsAreOne = (n seed : ℕ) (out other : Bytes) → IsLoadOut n seed out → IsLoadOut n seed other → out ≡ other
