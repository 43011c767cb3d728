-- What a door shows, and what one call of it does.
use Rattle.std.specs.Prelude.{◌≡◌, ◌≤◌, ℕ, List, Option, Some, Result, Ok, Err}
use Rattle.outside.specs.Causes.{Rose, next_count}
use Rattle.outside.specs.Links.{LinkState, IsNew}
use Rattle.outside.specs.declared.doors.Caller.{Caller}
use Rattle.outside.specs.declared.doors.Caller.TheVariants as caller
use Rattle.outside.specs.declared.doors.Kinds.{Kinds}
use Rattle.outside.specs.declared.doors.Port.{Port}

-- at which address a door was opened, for which kinds of links, and for pages of which origins
pub record OpenedAt : Type 0 where
  pub addr : List ℕ
  pub kinds : Kinds
  pub origins : List ℕ

abbrev pub opened_at : Port → OpenedAt
opened_at p = record { addr = p.addr.now; kinds = p.kinds; origins = p.origins.now }

-- how it was opened last, if it was; how many callers came, how often it told that none will come, and how often it failed
pub record DoorState : Type 0 where
  pub opened : Option OpenedAt
  pub links : ℕ
  pub ends : ℕ
  pub faults : ℕ

-- a call failed: the count of failures rose, and nothing else changed
pub record DoorFails (old new : DoorState) : Type 0 where
  pub rose : Rose old.faults new.faults
  pub later : old.faults ≤ new.faults
  pub same : new ≡ record old { faults = new.faults }

-- it was opened so
abbrev pub Opens : {T E : Type 0} → DoorState → DoorState → Result T E → OpenedAt → Type 0
Opens old new (Ok v) at = new ≡ record old { opened = Some at }
Opens old new (Err e) at = DoorFails old new

-- a link to the next caller, who bears the number of those before; or nobody yet, and nothing changed; or nobody any more
abbrev pub Accepts : {K E : Type 0} → (K → LinkState) → DoorState → DoorState → Result (Caller K) E → Type 0
Accepts shows old new (Ok (caller.Came link)) = IsNew old.links (shows link) × (new ≡ record old { links = next_count old.links })
Accepts shows old new (Ok caller.Later) = new ≡ old
Accepts shows old new (Ok caller.Over) = new ≡ record old { ends = next_count old.ends }
Accepts shows old new (Err e) = DoorFails old new
