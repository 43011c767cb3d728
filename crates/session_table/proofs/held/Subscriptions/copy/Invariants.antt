use Rattle.std.proofs.Common.{◌≡◌, take}
use Rattle.session_table.proofs.held.Subscriptions.copy.Given as goal

-- those so far are copied
abbrev pub invariant-loop-subscription : goal.invariant-loop-subscription
invariant-loop-subscription l = l.held.items ≡ take l.subscription-index l.subscription-items
