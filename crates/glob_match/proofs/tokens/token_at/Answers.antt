use Rattle.std.proofs.Common.{◌≢◌, chars, rules, arith}
use Rattle.byte_text.specs.Globs.{signs, outside}
use Rattle.glob_match.specs.Tokens.{left}
use Rattle.glob_match.proofs.TokenLaws.{plain_token, plain_begins}
use Rattle.glob_match.proofs.tokens.token_at.Goals as goal

pub returns-in-Plain-clause-read : goal.returns-in-Plain-clause-read
returns-in-Plain-clause-read c =
    let star : c.in-Plain.d ≢ 42 = search (rules, arith) in
    let any : c.in-Plain.d ≢ 63 = search (rules, arith) in
    let class : c.in-Plain.d ≢ 91 = search (rules, arith) in
    plain_begins (left c.args.pattern.now outside) (left c.in-Plain.behind.now outside) c.in-Plain.d c.args.c
    (plain_token (signs (chars c.args.pattern.now)) (signs (chars c.in-Plain.behind.now)) c.in-Plain.d c.in-Plain.ensures.read star any class)
