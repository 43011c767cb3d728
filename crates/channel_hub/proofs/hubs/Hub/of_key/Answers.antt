use Rattle.std.proofs.Common.{◌∙◌, ap}
use Rattle.std.specs.Prelude.{Some}
use Rattle.fence_model.specs.Messages.{watches}
use Rattle.channel_hub.specs.Dues.{left_of}
use Rattle.channel_hub.proofs.Left.{left_filter}
use Rattle.channel_hub.proofs.hubs.Hub.of_key.Goals as goal

pub returns : goal.returns
returns c =
    let out = c.self.inside.out in
    rw (← c.self.view_is) (c.leave_out.ensures ∙ ap (left_of out) c.in_ok-candidates.ensures ∙ left_filter out (watches (Some c.args.key.now)) c.self.inside.all.channels)
