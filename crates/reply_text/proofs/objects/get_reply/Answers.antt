use Rattle.std.proofs.Common.{◌≡◌, [], ◌∷◌, subst, sym, arith}
use Rattle.std.proofs.lemmas.Grind.{common_steps}
use Rattle.byte_text.specs.Replies.{array, IsFrame}
use Rattle.world_model.specs.Replies.{fields_reply, object_reply}
use Rattle.reply_text.proofs.WholeReplies.{with_fields_frame}
use Rattle.reply_text.proofs.objects.get_reply.Goals as goal

pub returns-clause-frame : goal.returns-clause-frame
returns-clause-frame c = λ h.
    let made : c.finish.result ≡ array (object_reply c.args.shown c.args.object.now ∷ fields_reply c.args.object.now.fields ∷ []) = grind (arith, common_steps) in
    subst IsFrame (sym made) (with_fields_frame c.lists_are_whole.ensures.next c.lists_are_whole.ensures.list c.args.shown c.args.object.now h)
