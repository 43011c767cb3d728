use Rattle.std.proofs.Common.{◌≡◌, ◌++◌, drop}
use Rattle.world_model.specs.Replies.{fields_reply}
use Rattle.reply_text.proofs.FieldParts.{pieces}
use Rattle.reply_text.proofs.objects.push_fields.Given as goal

abbrev pub invariant-loop-i : goal.invariant-loop-i
invariant-loop-i l = l.draft ++ pieces (drop l.i l.fields) ≡ l.fn.draft ++ fields_reply l.fn.fields
