use Rattle.std.proofs.Common.{length, chars, ◌≡◌, List, Some}
use denote.Text.{Utf8}
use denote.Shadow.{shadow}
use Rattle.byte_text.specs.Globs.{Token, outside, tokens_meet}
use Rattle.glob_match.specs.Tokens.{left}
use Rattle.glob_match.specs.Matches.{some_end}
use Rattle.glob_match.proofs.Matching.{Left}
use Rattle.glob_match.proofs.matches.ends_meet.Given as goal

abbrev pub invariant-stars : goal.invariant-stars
invariant-stars l = shadow (Utf8 l.pattern) × shadow (Utf8 l.name) × ((ps : List Token) → left l.fn.pattern outside ≡ Some ps → Left (some_end (tokens_meet ps) (chars l.fn.name)) (left l.pattern outside) (chars l.name))

abbrev pub decreases-stars : goal.decreases-stars
decreases-stars l = length l.pattern
