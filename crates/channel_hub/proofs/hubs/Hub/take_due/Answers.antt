use Rattle.std.proofs.Common.{◌<◌, ◌∙◌, ap, arith}
use Rattle.std.specs.Prelude.{unwrap_or}
use Rattle.channel_hub.specs.Dues.{least_due}
use Rattle.channel_hub.proofs.DueFrom.{all_left, from_least_or, nothing_due}
use Rattle.channel_hub.proofs.hubs.Hub.take_due.Goals as goal

pub returns-then-now-unwrap_or-clause-channels : goal.returns-then-now-unwrap_or-clause-channels
returns-then-now-unwrap_or-clause-channels c =
    let xs = c.args.self.now.channels in
    let least = c.unwrap_or.ensures ∙ ap (λ o. unwrap_or o 18446744073709551615) (c.least_due.ensures ∙ ap least_due c.let_go.ensures.channels) in
    let before : c.args.now < unwrap_or (least_due xs) 18446744073709551615 = omega (arith, c.if-now-unwrap_or.true, least) in
    c.let_go.ensures.channels ∙ all_left (unwrap_or (least_due xs) 18446744073709551615) c.args.now xs (from_least_or xs 18446744073709551615) before

pub returns-then-now-unwrap_or-clause-taken : goal.returns-then-now-unwrap_or-clause-taken
returns-then-now-unwrap_or-clause-taken c =
    let xs = c.args.self.now.channels in
    let least = c.unwrap_or.ensures ∙ ap (λ o. unwrap_or o 18446744073709551615) (c.least_due.ensures ∙ ap least_due c.let_go.ensures.channels) in
    let before : c.args.now < unwrap_or (least_due xs) 18446744073709551615 = omega (arith, c.if-now-unwrap_or.true, least) in
    c.let_go.ensures.settled.none ∙ nothing_due (unwrap_or (least_due xs) 18446744073709551615) c.args.now xs (from_least_or xs 18446744073709551615) before
