-- What one that waits for links shows. Which are named is nowhere in it.
use Rattle.std.specs.Prelude.{◌≡◌, ◌≤◌, ℕ, Bool, true, List, [], ◌∷◌, ◌++◌, Option, Result, Ok, Err, option_map}
use Rattle.outside.specs.Causes.{Rose}
use Rattle.outside.specs.Links.{LinkState}

-- the links that were shut, in that order, as they were then, where it tells them; whether an end was asked for; and how often it failed
pub record WaitState : Type 0 where
  pub shut : Option (List LinkState)
  pub over : Bool
  pub faults : ℕ

-- the count of failures rose where the call failed, and nothing else changed
abbrev pub Tries : {T E : Type 0} → WaitState → WaitState → Result T E → Type 0
Tries old new (Ok v) = new ≡ old
Tries old new (Err e) = Rose old.faults new.faults × (old.faults ≤ new.faults) × (new ≡ record old { faults = new.faults })

-- the same of a wait, at which an end may be asked for; that it was is never taken back
abbrev pub Waits : {T E : Type 0} → WaitState → WaitState → Result T E → Type 0
Waits old new (Ok v) = (old.over ≡ true → new.over ≡ true) × (new ≡ record old { over = new.over })
Waits old new (Err e) = Rose old.faults new.faults × (old.faults ≤ new.faults) × (new ≡ record old { faults = new.faults })

-- the link stands last among those that were shut, or there was no memory to tell it
abbrev pub Shuts : {T E : Type 0} → WaitState → WaitState → Result T E → LinkState → Type 0
Shuts old new (Ok v) link = new ≡ record old { shut = option_map (λ links. links ++ link ∷ []) old.shut }
Shuts old new (Err e) link = new ≡ old
