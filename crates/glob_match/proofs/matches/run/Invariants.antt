use Rattle.std.proofs.Common.{length, chars, ◌≡◌, ◌≤◌, List, Some}
use denote.Text.{Utf8}
use denote.Shadow.{shadow}
use Rattle.byte_text.specs.Globs.{Token, outside}
use Rattle.glob_match.specs.Tokens.{left}
use Rattle.glob_match.proofs.Matching.{Gone}
use Rattle.glob_match.proofs.matches.run.Given as goal

abbrev pub invariant-go : goal.invariant-go
invariant-go l = shadow (Utf8 l.pattern) × shadow (Utf8 l.name) × (length l.pattern ≤ length l.fn.pattern)
    × ((ps : List Token) → left l.fn.pattern outside ≡ Some ps → Gone ps (chars l.fn.name) (left l.pattern outside) (chars l.name))

abbrev pub decreases-go : goal.decreases-go
decreases-go l = length l.pattern
