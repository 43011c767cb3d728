use Rattle.std.proofs.Common.{◌<◌, arith}
use Rattle.resp_frames.proofs.ShortLaws.{one_digit, two_front}
use Rattle.resp_frames.proofs.short_requests.with_next.Goals as goal

pub returns-then-first-eq0-clause-number : goal.returns-then-first-eq0-clause-number
returns-then-first-eq0-clause-number c = one_digit c.args.first c.args.bytes.now c.requires

pub returns-in-empty-clause-number : goal.returns-in-empty-clause-number
returns-in-empty-clause-number c = one_digit c.args.first c.args.bytes.now c.requires

pub returns-in-Some-clause-number : goal.returns-in-Some-clause-number
returns-in-Some-clause-number c =
    let ne = c.if-first-eq0.false in
    let some : 0 < c.args.first = omega (arith, ne) in
    two_front c.args.first c.in-Some.second c.args.bytes.now some c.requires c.in-Some.ensures.short c.in-len1-up.len_at_least c.in-Some.ensures.digit

pub returns-in-None-clause-number : goal.returns-in-None-clause-number
returns-in-None-clause-number c = one_digit c.args.first c.args.bytes.now c.requires
