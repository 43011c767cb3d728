use Rattle.std.proofs.Common.{sym, subst}
use Rattle.std.proofs.lemmas.Result.{IfOk-weaker}
use Rattle.byte_text.specs.Replies.{IsFrame}
use Rattle.reply_text.proofs.WholeReplies.{array_frame}
use Rattle.reply_text.proofs.lists.ReplyList.array.Goals as goal

pub returns-clause-frame : goal.returns-clause-frame
returns-clause-frame c = λ frames.
    let frame = array_frame c.lists_are_whole.ensures.next c.lists_are_whole.ensures.list c.args.self frames in
    IfOk-weaker _ _ IsFrame (λ reply is. subst IsFrame (sym is) frame) c.joined.ensures
