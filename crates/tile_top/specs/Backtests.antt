-- What `backtest` promises of its status and of the disk.
use Rattle.std.specs.Prelude.{◌≡◌, ◌≢◌, ◌⊎◌, ℕ, Bool, true, List, [], ◌∷◌, Option, Some, None, codes}
use Rattle.byte_text.specs.Names.{Bytes}
use Rattle.outside.specs.Crashes.{LeavesOnly}
use Rattle.outside.specs.Sides.{Sides}
use Rattle.outside.specs.declared.sides.Side.{Side}
use Rattle.world_data.specs.declared.channels.Channel.{Channel}
use Rattle.journal.specs.Openings.{IsAllSafe}
use Rattle.serve_run.specs.Ends.{IsEnd, memory_line}
use Rattle.replay_run.specs.Openings.{IsDamagedAt}
use Rattle.replay_run.specs.declared.halts.Halt.{Halt}
use Rattle.replay_run.specs.declared.halts.Halt.TheVariants as halted
use Rattle.fence_backtest.specs.LogReports.{IsReported}
use Rattle.fence_backtest.specs.Requests.{IsAsked}
use Rattle.tile_top.specs.Tops.{IsHaltEnd, read_line}

-- the program's words are this one alone
abbrev pub IsBacktest : List Bytes → Type 0
IsBacktest words = words ≡ codes "backtest" ∷ []

abbrev pub fence_line : Bytes
fence_line = codes "bad fence\n"

-- it is not known which fence is asked for: the source failed, or memory wanted
abbrev pub IsUnasked : Option Bytes → Option Bytes → ℕ → Type 0
IsUnasked held held' status = IsEnd held held' 3 read_line status ⊎ IsEnd held held' 7 memory_line status

-- the log was not read: memory wanted, or the disk failed, or it is damaged where that is said
pub record IsUnread (seen : Option Sides) (held held' : Option Bytes) (status : ℕ) : Type 0 where
  pub why : Halt
  pub unspent : why ≢ halted.Spent
  pub damaged : (side : Side) (place : ℕ) → why ≡ halted.Damaged side place → IsDamagedAt seen side place
  pub ended : IsHaltEnd why held held' status

-- the log was read, and the report of its records was written, or a part of it where writing failed
pub record IsTold (seen : Option Sides) (c : Channel) (held held' : Option Bytes) (status : ℕ) : Type 0 where
  pub text : Bytes
  pub reported : IsReported seen c text
  pub ended : IsEnd held held' 0 text status

abbrev pub Tells : Option Sides → Channel → Option Bytes → Option Bytes → ℕ → Type 0
Tells seen c held held' status = IsTold seen c held held' status ⊎ IsUnread seen held held' status

-- No fence is asked for, or none by a text that this is known of; or a fence is, and it was told of the log.
abbrev pub Backtests : Option Sides → Option Bytes → Option Bytes → Option Bytes → Option Bytes → ℕ → Type 0
Backtests seen left left' held held' status = ((IsAsked left left' None × IsEnd held held' 11 fence_line status) ⊎ IsUnasked held held' status)
    ⊎ ((c : Channel) × IsAsked left left' (Some c) × Tells seen c held held' status)

-- Nothing was made of a disk. Where it tells what it holds, it reads as before; where it tells crashes, at no moment might one have left what
-- it might not have left before; and at status 0 whatever one leaves is what it reads as.
pub record IsReadAlone {D : Type 0} (crashes : D → Bool) (seen : D → Option Sides) (images : D → Sides → Type 0) (moment : D → ℕ) (left_since : D
    → ℕ → Sides → Type 0) (disk left : D) (status : ℕ) : Type 0 where
  pub reads : (s : Sides) → seen disk ≡ Some s → seen left ≡ Some s
  pub leaves : (s : Sides) → seen disk ≡ Some s → crashes disk ≡ true → LeavesOnly moment left_since disk left (images disk)
  pub safe : status ≡ 0 → (s : Sides) → seen disk ≡ Some s → IsAllSafe (crashes left) (seen left) (images left) s
