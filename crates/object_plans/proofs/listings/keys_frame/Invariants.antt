use Rattle.std.proofs.Common.{map, take}
use Rattle.byte_text.specs.Replies.{bulk}
use Rattle.object_plans.specs.Listings.{keys_met, AreItems}
use Rattle.object_plans.proofs.listings.keys_frame.Given as goal

-- the items are the keys that are met among the first entries
abbrev pub invariant-loop-i : goal.invariant-loop-i
invariant-loop-i l = AreItems (map bulk (keys_met l.pattern (take l.i l.objects))) l.keys
