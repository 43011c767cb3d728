-- What the tends among a loop's steps told, and which steps may stand behind that.
use Rattle.std.specs.Prelude.{List, [], ◌∷◌}
use Rattle.serve_run.specs.declared.tendings.Tending.{Tending}
use Rattle.serve_run.specs.declared.terms.Terms.{Terms}
use Rattle.serve_run.specs.Pacing.{tended, wanted, HasGrown, HasWanted}
use Rattle.serve_run.specs.Steps.{Step, Tended, Wanting, Shrunk, Unshrunk}

-- what was told, behind a step
abbrev pub tending_behind : Tending → Step → Tending
tending_behind t (Tended m n log) = tended t log
tending_behind t (Wanting m n c) = wanted t m
tending_behind t step = t

abbrev pub tending_from : Tending → List Step → Tending
tending_from t [] = t
tending_from t (step ∷ steps) = tending_from (tending_behind t step) steps

-- the server asks that the log be rewritten only where it has grown, and ends where memory was wanted for long
abbrev pub MayFollow : Terms → Tending → Step → Type 0
MayFollow terms t (Shrunk n m c) = HasGrown terms t
MayFollow terms t (Unshrunk o) = HasGrown terms t
MayFollow terms t (Wanting m n c) = HasWanted t m → ⊥
MayFollow terms t step = Unit {0}

abbrev pub AllFollow : Terms → Tending → List Step → Type 0
AllFollow terms t [] = Unit {0}
AllFollow terms t (step ∷ steps) = MayFollow terms t step × AllFollow terms (tending_behind t step) steps
