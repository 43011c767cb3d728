-- Entries that a seat gains leave the opening that it shows, and whether it is the first.
use Rattle.std.proofs.Common.{◌≡◌, ap, ◌∙◌, List, [], ◌∷◌}
use Rattle.world_model.specs.Seats.{Knows, Act}
use Rattle.session_run.specs.Gains.{Gains}

pub gains_opening : (old new : Knows) (acts : List Act) → Gains old new acts → new.opening ≡ old.opening
gains_opening old new [] g = ap (λ (k : Knows). k.opening) g
gains_opening old new (a ∷ acts) g = gains_opening g.0 new acts g.2 ∙ g.1.opening

pub gains_first : (old new : Knows) (acts : List Act) → Gains old new acts → new.first ≡ old.first
gains_first old new [] g = ap (λ (k : Knows). k.first) g
gains_first old new (a ∷ acts) g = gains_first g.0 new acts g.2 ∙ g.1.first
