use Rattle.std.proofs.Common.{chars, ◌∙◌}
use Rattle.byte_text.specs.Globs.{tokens_meet}
use Rattle.glob_match.proofs.Matching.{met_here}
use Rattle.glob_match.proofs.matches.seek.Goals as goal

pub returns-in-Meets-clause-read : goal.returns-in-Meets-clause-read
returns-in-Meets-clause-read c = λ ps e. c.seek.invariant.1 ps e ∙ met_here (tokens_meet ps) (chars c.seek.name.now) (c.in-Meets.ensures.read ps e)
