use Rattle.std.proofs.Common.{map, take}
use Rattle.world_model.specs.Replies.{channel_reply}
use Rattle.channel_plans.specs.Dropping.{met_channels}
use Rattle.object_plans.specs.Listings.{AreItems}
use Rattle.channel_plans.proofs.channels.chans_frame.Given as goal

-- the items are the channels that are met among the first ones
abbrev pub invariant-loop-i : goal.invariant-loop-i
invariant-loop-i l = AreItems (map channel_reply (met_channels l.pattern (take l.i l.hub.channels))) l.items
