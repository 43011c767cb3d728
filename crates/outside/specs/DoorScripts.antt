-- What a door in memory shows: a script that is played, and what came of it.
use Rattle.std.specs.Prelude.{◌≡◌, ℕ, Bool, List, [], ◌∷◌, Result, Ok, IsErr, if◌then◌else◌}
use Rattle.outside.specs.Doors.{DoorState}
use Rattle.outside.specs.LinkScripts.{Scripted, begun}
use Rattle.outside.specs.declared.doors.Caller.{Caller}
use Rattle.outside.specs.declared.doors.Caller.TheVariants as caller
use Rattle.outside.specs.declared.scripted_doors.Visit.{Visit}
use Rattle.outside.specs.declared.scripted_doors.Visit.TheVariants as visit

-- a door: who visits it at each look to come; whether it stays open behind them; whether it can be opened; and what any door shows
pub record Visited : Type 0 where
  pub visits : List Visit
  pub stays : Bool
  pub opens : Bool
  pub state : DoorState

-- what a look for a caller answers
abbrev pub CallerBy : {E : Type 0} → List Visit → Bool → ℕ → Result (Caller Scripted) E → Type 0
CallerBy [] stays n r = r ≡ Ok (if stays then caller.Later else caller.Over)
CallerBy (visit.Nobody ∷ visits) stays n r = r ≡ Ok caller.Later
CallerBy (visit.Fails ∷ visits) stays n r = IsErr r
CallerBy (visit.Comes script ∷ visits) stays n r = r ≡ Ok (caller.Came (begun n script))
