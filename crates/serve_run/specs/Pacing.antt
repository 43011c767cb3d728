-- What the ticks and the steps of rewriting behind them told, when the server asks by itself that the log be rewritten, and for how long it
-- goes on while they want memory.
use Rattle.std.specs.Prelude.{◌≡◌, ◌<◌, ◌≤◌, ◌+◌, ◌-◌, ◌*◌, ℕ, Bool, true, false, Option, Some, None, min, if◌then◌else◌}
use Rattle.world_model.specs.declared.events.LogState.{LogState}
use Rattle.serve_run.specs.declared.tendings.Tending.{Tending}
use Rattle.serve_run.specs.declared.terms.Terms.{Terms}

-- nothing was told yet
abbrev pub untended : Tending
untended = record { base = None; log = record { bytes = 0; is_rewriting = false }; wanting = None }

-- the size from which the log's growth counts: the one told first, and from the end of a rewriting on the one told then
abbrev pub base_behind : Option ℕ → Bool → LogState → Option ℕ
base_behind None was_rewriting log = Some log.bytes
base_behind (Some base) true log = if log.is_rewriting then Some base else Some log.bytes
base_behind (Some base) false log = Some base

-- the log was told to be so
abbrev pub tended : Tending → LogState → Tending
tended t log = record { base = base_behind t.base t.log.is_rewriting log; log = log; wanting = None }

-- since when memory is wanted; a clock that was set back is followed
abbrev pub wanting_since : Option ℕ → ℕ → ℕ
wanting_since None moment = moment
wanting_since (Some since) moment = min since moment

-- memory was wanted at a moment
abbrev pub wanted : Tending → ℕ → Tending
wanted t moment = record t { wanting = Some (wanting_since t.wanting moment) }

-- it was wanted for ten seconds before a moment
abbrev pub LastsSince : Option ℕ → ℕ → Type 0
LastsSince None moment = ⊥
LastsSince (Some since) moment = since + 10000 ≤ moment

abbrev pub HasWanted : Tending → ℕ → Type 0
HasWanted t moment = LastsSince t.wanting moment

-- so many bytes are as many per cent more than the base as a log may grow by
abbrev pub IsGrownFrom : Option ℕ → ℕ → ℕ → Type 0
IsGrownFrom None bytes percent = ⊥
IsGrownFrom (Some base) bytes percent = base * percent ≤ (bytes - base) * 100

-- The log is to be rewritten when it has grown, is not rewritten already, has 64 MiB, and grew by as much as the terms say. What was told of
-- it is a hint of the hall, and no clause of the hall says more of it.
pub record HasGrown (terms : Terms) (t : Tending) : Type 0 where
  pub allowed : 0 < terms.shrink_at
  pub still : t.log.is_rewriting ≡ false
  pub large : 67108864 ≤ t.log.bytes
  pub grown : IsGrownFrom t.base t.log.bytes terms.shrink_at
