-- What the first sign of a pattern says of its signs.
use Rattle.std.specs.Prelude.{◌≡◌, ℕ, ◌<◌, length, ◌∷◌, [], List, chars}
use Rattle.byte_text.specs.Globs.{Sign, plain, literal, unpaired, signs}
use Rattle.glob_match.specs.declared.signs.SignAt.{SignAt}
use Rattle.glob_match.specs.declared.signs.SignAt.TheVariants as at

abbrev pub OnSign : SignAt → List Sign → Type 0
OnSign at.End ss = ss ≡ []
OnSign at.Unpaired ss = ss ≡ unpaired ∷ []
OnSign (at.Plain c rest) ss = ss ≡ plain c ∷ signs (chars rest.now)
OnSign (at.Literal c rest) ss = ss ≡ literal c ∷ signs (chars rest.now)

-- the text behind it is shorter
abbrev pub IsShorter : SignAt → ℕ → Type 0
IsShorter at.End len = Unit {0}
IsShorter at.Unpaired len = Unit {0}
IsShorter (at.Plain c rest) len = length rest.now < len
IsShorter (at.Literal c rest) len = length rest.now < len
