use Rattle.std.proofs.Common.{◌≡◌, map, take}
use Rattle.byte_text.specs.Replies.{frame_text}
use Rattle.world_model.specs.Replies.{confirmations}
use Rattle.world_model.specs.Subscriptions.{with_subs}
use Rattle.reply_text.specs.Confirmations.{called_of}
use Rattle.delivery_model.specs.Plans.{subs_of}
use Rattle.channel_plans.proofs.subscribing.confirm_each.Given as goal

-- the words so far are subscribed to and confirmed
abbrev pub invariant-loop-i : goal.invariant-loop-i
invariant-loop-i l = record {
  held : l.subs ≡ with_subs l.initial.subs (subs_of l.pattern (take l.i l.words));
  told : l.frames.items ≡ map frame_text (confirmations (called_of l.pattern) l.initial.subs (subs_of l.pattern (take l.i l.words)));
}
