use Rattle.std.proofs.Common.{◌≡◌, rules}
use Rattle.glob_match.proofs.TokenLaws.{glob_is, text_is}
use Rattle.glob_match.proofs.matches.glob_meets.Goals as goal

pub returns-in-Ok-Ok : goal.returns-in-Ok-Ok
returns-in-Ok-Ok c =
    let p : c.in-Ok-Ok.pattern.now ≡ c.args.pattern.now = search rules in
    let n : c.in-Ok-Ok.name.now ≡ c.args.name.now = search rules in
    glob_is c.args.pattern.now c.args.name.now c.in-Ok-Ok.pattern.now c.in-Ok-Ok.name.now c.text_meets.result p n c.requires.pattern c.text_meets.ensures

pub returns-in_default : goal.returns-in_default
returns-in_default c = absurd (text_is c.args.name.now c.requires.name_text c.in_default.ensures'.cases.0)

pub returns-in_default-2 : goal.returns-in_default-2
returns-in_default-2 c = absurd (text_is c.args.pattern.now c.requires.pattern_text c.in_default.ensures.cases.0)
