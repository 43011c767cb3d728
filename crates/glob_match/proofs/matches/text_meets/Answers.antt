use Rattle.std.proofs.Common.{chars, sym}
use Rattle.byte_text.specs.Globs.{tokens_meet}
use Rattle.glob_match.proofs.Matching.{short_fails}
use Rattle.glob_match.proofs.matches.text_meets.Goals as goal

pub returns-in-Short : goal.returns-in-Short
returns-in-Short c = λ ps e. sym (short_fails (tokens_meet ps) (chars c.args.name.now) (c.in-Short.ensures.read ps e))
