use Rattle.std.proofs.Common.{length, ◌≡◌}
use Rattle.std.specs.Prelude.{is_some}
use denote.Text.{Utf8}
use denote.Shadow.{shadow}
use Rattle.byte_text.specs.Globs.{outside}
use Rattle.glob_match.specs.Tokens.{left}
use Rattle.glob_match.proofs.matches.is_pattern.Given as goal

abbrev pub invariant-read : goal.invariant-read
invariant-read l = shadow (Utf8 l.rest) × (is_some (left l.pattern outside) ≡ is_some (left l.rest outside))

abbrev pub decreases-read : goal.decreases-read
decreases-read l = length l.rest
