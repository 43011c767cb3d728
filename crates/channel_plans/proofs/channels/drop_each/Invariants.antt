use Rattle.std.proofs.Common.{take}
use Rattle.channel_plans.specs.Dropping.{IsDroppedOf}
use Rattle.channel_plans.proofs.channels.drop_each.Given as goal

abbrev pub invariant-loop-i : goal.invariant-loop-i
invariant-loop-i l = IsDroppedOf l.pattern (take l.i l.hub.channels) l.fn.channels l.dropped
