use Rattle.std.proofs.Common.{◌≡◌, ◌++◌, subst, sym, refl}
use Rattle.byte_text.specs.Lines.{IsOneLine}
use Rattle.world_model.specs.Refusals.{in_quotes}
use Rattle.reply_text.proofs.OneLine.{quoted}
use Rattle.reply_text.proofs.refusals.quoted_reply.Goals as goal

pub error_reply-requires : goal.error_reply-requires
error_reply-requires c =
    let text : c.bytes.result.now ≡ (c.args.before.now ++ in_quotes c.args.word.now) ++ c.args.after.now = rw (c.bytes.ensures, c.in_ok-push-2.ensures.ok, c.in_ok-push_quoted.ensures, c.in_ok-push.ensures.ok, c.new-text.ensures) refl in
    subst IsOneLine (sym text) (quoted c.args.before.now c.args.word.now c.args.after.now c.requires.before c.requires.after)
