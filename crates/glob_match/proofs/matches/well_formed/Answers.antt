use Rattle.std.proofs.Common.{◌≡◌, rules}
use Rattle.std.specs.Str.{IsUtf8}
use Rattle.glob_match.proofs.TokenLaws.{formed_is, not_text}
use Rattle.glob_match.proofs.matches.well_formed.Goals as goal

pub returns-in-Ok : goal.returns-in-Ok
returns-in-Ok c =
    let p : c.in-Ok.pattern.now ≡ c.args.pattern.now = search rules in
    let text : IsUtf8 c.args.pattern.now = search rules in
    formed_is c.args.pattern.now c.in-Ok.pattern.now c.is_pattern.result p text c.is_pattern.ensures

pub returns-in-Err : goal.returns-in-Err
returns-in-Err c = not_text c.args.pattern.now c.in-Err.ensures.cases.0
