use Rattle.std.proofs.Common.{length, chars, ◌≡◌, List, Some}
use denote.Text.{Utf8}
use denote.Shadow.{shadow}
use Rattle.byte_text.specs.Globs.{Token, outside, tokens_meet}
use Rattle.glob_match.specs.Tokens.{left}
use Rattle.glob_match.specs.Matches.{some_end}
use Rattle.glob_match.proofs.matches.seek.Given as goal

abbrev pub invariant-seek : goal.invariant-seek
invariant-seek l = shadow (Utf8 l.name) × ((ps : List Token) → left l.pattern outside ≡ Some ps → some_end (tokens_meet ps) (chars l.fn.name) ≡ some_end (tokens_meet ps) (chars l.name))

abbrev pub decreases-seek : goal.decreases-seek
decreases-seek l = length l.name
