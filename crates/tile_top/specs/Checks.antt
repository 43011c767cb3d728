-- What `check` promises of its status.
use Rattle.std.specs.Prelude.{◌≡◌, ◌≢◌, ◌⊎◌, ℕ, Option}
use Rattle.byte_text.specs.Names.{Bytes}
use Rattle.outside.specs.Sides.{Sides}
use Rattle.outside.specs.declared.sides.Side.{Side}
use Rattle.world_data.specs.declared.worlds.World.{World}
use Rattle.world_model.specs.declared.events.CallOutcome.{CallOutcome}
use Rattle.world_model.specs.declared.events.CallOutcome.TheVariants as called
use Rattle.serve_run.specs.Ends.{IsEnd, disk_line, memory_line}
use Rattle.replay_run.specs.Openings.{Opens, IsDamagedAt}
use Rattle.replay_run.specs.declared.halts.Halt.{Halt}
use Rattle.replay_run.specs.declared.halts.Halt.TheVariants as halted
use Rattle.tile_top.specs.Tops.{IsHaltEnd, check_line}

-- a disk was not opened: memory wanted, or it failed, or it is damaged where that is said; `Back` is what is left of it, by the halt
pub record IsUnfound (seen : Option Sides) (Back : Halt → Type 0) (held0 held : Option Bytes) (status : ℕ) : Type 0 where
  pub why : Halt
  pub unspent : why ≢ halted.Spent
  pub damaged : (side : Side) (place : ℕ) → why ≡ halted.Damaged side place → IsDamagedAt seen side place
  pub back : Back why
  pub ended : IsHaltEnd why held0 held status

-- A disk was opened with a world, and the line of that was written; but the disk failed when it was retired, or memory wanted. `Left` is what
-- is left of it, by the world, the length of its log, its generation and the answer to the retirement.
pub record IsFound (seen : Option Sides) (Left : World → ℕ → ℕ → CallOutcome → Type 0) (held0 held : Option Bytes) (status : ℕ) : Type 0 where
  pub world : World
  pub logged : ℕ
  pub opens : Opens seen world logged
  pub generation : ℕ
  pub answered : CallOutcome
  pub left : Left world logged generation answered
  pub ended : ((answered ≡ called.Ok)
      × (IsEnd held0 held 0 (check_line world generation) status ⊎ IsEnd held0 held 7 memory_line status)) ⊎ ((answered ≡ called.LogFault)
      × IsEnd held0 held 5 disk_line status)

abbrev pub Checks : Option Sides → (Halt → Type 0) → (World → ℕ → ℕ → CallOutcome → Type 0) → Option Bytes → Option Bytes → ℕ → Type 0
Checks seen Back Left held0 held status = IsUnfound seen Back held0 held status ⊎ IsFound seen Left held0 held status
