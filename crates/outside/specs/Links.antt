-- What a link shows, and what one call of it does.
use Rattle.std.specs.Prelude.{◌≡◌, ◌<◌, ◌≤◌, ℕ, List, [], take, Option, Result, Ok, Err, IfSome}
use Rattle.std.specs.Io.KnownBytes.{Consumes, Appends, IsAtEnd}
use Rattle.outside.specs.Causes.{Rose}
use Rattle.outside.specs.declared.links.Got.{Got}
use Rattle.outside.specs.declared.links.Got.TheVariants as got
use Rattle.outside.specs.declared.links.Sent.{Sent}
use Rattle.outside.specs.declared.links.Sent.TheVariants as sent

-- which caller it leads to, the bytes that are still to be read and those that were written, where the link tells them, and how often
-- it has failed
pub record LinkState : Type 0 where
  pub caller : ℕ
  pub left : Option (List ℕ)
  pub held : Option (List ℕ)
  pub faults : ℕ

-- a call failed: the count of failures rose, and nothing else changed
pub record LinkFails (old new : LinkState) : Type 0 where
  pub rose : Rose old.faults new.faults
  pub later : old.faults ≤ new.faults
  pub same : new ≡ record old { faults = new.faults }

-- bytes that came are some, and fit
abbrev pub GotWithin : {E : Type 0} → Result Got E → ℕ → Type 0
GotWithin (Ok (got.Bytes n)) room = (0 < n) × (n ≤ room)
GotWithin r room = Unit {0}

-- the first bytes that were left came, or none is left, or none came yet and nothing changed
abbrev pub Reads : {E : Type 0} → LinkState → LinkState → Result Got E → List ℕ → Type 0
Reads old new (Ok (got.Bytes n)) into = Consumes old.left new.left (take n into) × (new ≡ record old { left = new.left })
Reads old new (Ok got.End) into = IsAtEnd old.left × (new ≡ old)
Reads old new (Ok got.Later) into = new ≡ old
Reads old new (Err e) into = LinkFails old new

-- bytes that were taken are some, and no more than there were
abbrev pub SentWithin : {E : Type 0} → Result Sent E → ℕ → Type 0
SentWithin (Ok (sent.Bytes n)) most = (0 < n) × (n ≤ most)
SentWithin r most = Unit {0}

-- the first bytes of the piece were taken, or none yet and nothing changed
abbrev pub Writes : {E : Type 0} → LinkState → LinkState → Result Sent E → List ℕ → Type 0
Writes old new (Ok (sent.Bytes n)) piece = Appends old.held new.held (take n piece) × (new ≡ record old { held = new.held })
Writes old new (Ok sent.Later) piece = new ≡ old
Writes old new (Err e) piece = LinkFails old new

-- a link to this caller: nothing was written yet, and nothing has failed
pub record IsNew (caller : ℕ) (link : LinkState) : Type 0 where
  pub caller_is : link.caller ≡ caller
  pub unwritten : IfSome link.held (λ bytes. bytes ≡ [])
  pub unfailed : link.faults ≡ 0
