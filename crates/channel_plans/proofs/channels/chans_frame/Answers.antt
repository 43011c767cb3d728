use Rattle.std.proofs.Common.{map, take, drop, ◌+◌}
use Rattle.std.proofs.lemmas.Result.{err_from_is_err_and}
use Rattle.world_model.specs.Replies.{channel_reply}
use Rattle.channel_plans.specs.Dropping.{met_channels}
use Rattle.channel_plans.proofs.ChannelSums.{met_first}
use Rattle.object_plans.specs.ListingLaws.{long_whole}
use Rattle.channel_plans.proofs.channels.chans_frame.Goals as goal

pub returns-in_err-push_met-clause-too_long : goal.returns-in_err-push_met-clause-too_long
returns-in_err-push_met-clause-too_long c =
    let pattern = c.args.pattern.now in
    let cs = c.args.hub.now.channels in
    let n = c.loop-i.i + 1 in
    let p = err_from_is_err_and c.from_residual.result c.from_residual.ensures.1 in
    let long = long_whole (map channel_reply (met_channels pattern (take n cs))) (map channel_reply (met_channels pattern (drop n cs))) _ c.in_err-push_met.ensures.too_long in
    rw (p.1, p.2, met_first pattern cs n) long
