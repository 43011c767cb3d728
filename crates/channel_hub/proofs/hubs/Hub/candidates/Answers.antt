use Rattle.std.proofs.Common.{◌∙◌, ap, length, arith}
use Rattle.channel_hub.specs.Hubs.{may_concern}
use Rattle.channel_hub.specs.Dues.{left_of}
use Rattle.channel_hub.proofs.Left.{left_fewer, left_filter}
use Rattle.channel_hub.proofs.hubs.Hub.candidates.Goals as goal

pub returns-clause-channels : goal.returns-clause-channels
returns-clause-channels g c =
    let out = c.self.inside.out in
    rw (← c.self.view_is) (c.leave_out.ensures ∙ ap (left_of out) c.in_ok-candidates.ensures.channels ∙ left_filter out (may_concern c.args.key.now c.args.old c.args.new) c.self.inside.all.channels)

pub returns-clause-read : goal.returns-clause-read
returns-clause-read g c = λ lt.
    let fewer = left_fewer c.self.inside.out c.in_ok-candidates.candidates in
    let made = ap length c.leave_out.ensures in
    omega (arith, c.in_ok-candidates.ensures.read lt, fewer, made)
