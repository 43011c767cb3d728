use Rattle.std.proofs.Common.{ℕ, ◌∙◌, map, arith}
use Rattle.byte_text.specs.Replies.{array}
use Rattle.world_model.specs.Replies.{channel_reply}
use Rattle.world_model.specs.Subscriptions.{Sub}
use Rattle.std.proofs.Common.{List, false}
use Rattle.keyspace.specs.Entries.{objects_in}
use Rattle.channel_plans.specs.Dropping.{met_channels}
use Rattle.object_plans.specs.Moves.{world_with}
use Rattle.object_plans.specs.Answering.{replies_alone}
use Rattle.channel_plans.proofs.ChannelEffects.{shown}
use Rattle.channel_plans.proofs.channels.plan_chans.Goals as goal

pub returns : goal.returns
returns c = λ (now : ℕ) (held : List Sub).
    let os = objects_in c.args.context.objects.now in
    let cs = c.args.context.hub.now.channels in
    let pattern = c.args.pattern.now in
    let r = c.in_ok-frame.ensures (array (map channel_reply (met_channels pattern cs))) c.chans_frame.ensures.ok c.chans_frame.ensures.too_long in
    rw c.reply.ensures (replies_alone os c.args.context.total c.requires.kept _ r.reply c.in_ok-frame.frame false (shown (world_with cs os) now pattern ∙ r.is) r.frame_is r.short, omega (arith, c.requires.light, c.requires.channels))
