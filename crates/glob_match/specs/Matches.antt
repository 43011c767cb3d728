-- How far tokens without a `*` go in a name.
use Rattle.std.specs.Prelude.{◌≡◌, ℕ, ◌<◌, length, Bool, true, false, List, Some, chars}
use Rattle.std.specs.List.{list_any}
use Rattle.byte_text.specs.Globs.{Token, outside, endings, tokens_meet}
use Rattle.glob_match.specs.declared.matches.Went.{Went}
use Rattle.glob_match.specs.declared.matches.Went.TheVariants as went
use Rattle.glob_match.specs.declared.matches.Found.{Found}
use Rattle.glob_match.specs.declared.matches.Found.TheVariants as found
use Rattle.glob_match.specs.Tokens.{left}

-- an end of the name, or the whole name, meets the tokens
abbrev pub some_end : (List ℕ → Bool) → List ℕ → Bool
some_end test name = list_any test (endings name)

-- what comes of the tokens before the first `*`, for a name and for each end of it
abbrev pub OnWent : Went → List Token → List ℕ → Type 0
OnWent went.Meets ts name = tokens_meet ts name ≡ true
OnWent went.Fails ts name = tokens_meet ts name ≡ false
OnWent went.Short ts name = some_end (tokens_meet ts) name ≡ false
OnWent (went.Star rest behind) ts name = (us : List Token) × (left rest.now outside ≡ Some us)
    × (tokens_meet ts name ≡ some_end (tokens_meet us) (chars behind.now))
    × (some_end (tokens_meet ts) name ≡ some_end (tokens_meet us) (chars behind.now))

abbrev pub OnFound : Found → List Token → List ℕ → Type 0
OnFound found.Meets ts name = some_end (tokens_meet ts) name ≡ true
OnFound found.Fails ts name = some_end (tokens_meet ts) name ≡ false
OnFound (found.Star rest behind) ts name = (us : List Token) × (left rest.now outside ≡ Some us)
    × (some_end (tokens_meet ts) name ≡ some_end (tokens_meet us) (chars behind.now))

-- the pattern behind a `*` is shorter
abbrev pub IsWent : Went → ℕ → Type 0
IsWent went.Meets len = Unit {0}
IsWent went.Fails len = Unit {0}
IsWent went.Short len = Unit {0}
IsWent (went.Star rest behind) len = length rest.now < len

abbrev pub IsFound : Found → ℕ → Type 0
IsFound found.Meets len = Unit {0}
IsFound found.Fails len = Unit {0}
IsFound (found.Star rest behind) len = length rest.now < len
