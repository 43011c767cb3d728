-- What the next item of a class says of the tokens from there on.
use Rattle.std.specs.Prelude.{◌≡◌, ℕ, ◌<◌, length, ◌∷◌, Bool, List, Option, None}
use Rattle.byte_text.specs.Globs.{Token, Item, behind_item, class_end, turned}
use Rattle.glob_match.specs.declared.classes.ItemAt.{ItemAt}
use Rattle.glob_match.specs.declared.classes.ItemAt.TheVariants as at
use Rattle.glob_match.specs.Tokens.{left}

abbrev pub OnItem : ItemAt → Option (List Token) → Bool → List Item → Type 0
OnItem at.Broken all others items = all ≡ None
OnItem (at.Closed rest) all others items = all ≡ turned (class_end others items) (left rest.now)
OnItem (at.Range low high rest) all others items = all ≡ left rest.now (behind_item others ((low, high) ∷ items))

-- the text behind it is shorter
abbrev pub IsShorter : ItemAt → ℕ → Type 0
IsShorter at.Broken len = Unit {0}
IsShorter (at.Closed rest) len = length rest.now < len
IsShorter (at.Range low high rest) len = length rest.now < len
