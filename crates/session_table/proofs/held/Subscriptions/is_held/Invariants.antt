use Rattle.std.proofs.Common.{◌≡◌, drop}
use Rattle.std.specs.List.{list_any}
use Rattle.world_model.specs.Subscriptions.{same_sub}
use Rattle.session_table.specs.Subscribed.{sub}
use Rattle.session_table.proofs.held.Subscriptions.is_held.Given as goal

-- those that are left decide
abbrev pub invariant-loop-subscription : goal.invariant-loop-subscription
invariant-loop-subscription l = list_any (same_sub (sub l.pattern l.word)) (drop l.subscription-index l.subscription-items) ≡ list_any (same_sub (sub l.pattern l.word)) l.subscription-items
