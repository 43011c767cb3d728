use Rattle.std.proofs.Common.{◌≡◌, subst, sym, arith}
use Rattle.std.proofs.lemmas.Grind.{common_steps}
use Rattle.byte_text.specs.Replies.{IsFrame}
use Rattle.world_model.specs.Replies.{channel_reply}
use Rattle.reply_text.proofs.WholeReplies.{channel_frame}
use Rattle.reply_text.proofs.channels.channel_reply.Goals as goal

pub returns-clause-frame : goal.returns-clause-frame
returns-clause-frame c =
    let made : c.finish.result ≡ channel_reply c.args.channel.now = grind (arith, common_steps) in
    subst IsFrame (sym made) (channel_frame c.lists_are_whole.ensures.next c.lists_are_whole.ensures.list c.args.channel.now)
