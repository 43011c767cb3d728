use Rattle.std.proofs.Common.{◌∙◌}
use Rattle.byte_text.specs.ByteOrder.{less_is_before}
use Rattle.ordered_lists.proofs.orders.is_before.Goals as goal

pub returns : goal.returns
returns c = c.lt.ensures ∙ less_is_before c.args.first.now c.args.second.now
