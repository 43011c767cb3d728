use Rattle.std.proofs.Common.{◌∙◌}
use Rattle.fence_backtest.proofs.Joining.{read_whole}
use Rattle.fence_backtest.proofs.log_batches.read_batches.Goals as goal

pub returns-in-Ok-Ok-clause-changes : goal.returns-in-Ok-Ok-clause-changes
returns-in-Ok-Ok-clause-changes g c =
    let are = rw c.in-Ok-Ok.field-0-is at c.in-Ok-Ok.ensures in
    c.of.ensures ∙ (read_whole c.args.version c.args.batches.now c.in-Ok-Ok.parts.items are).0

pub returns-in-Ok-Ok-clause-whole : goal.returns-in-Ok-Ok-clause-whole
returns-in-Ok-Ok-clause-whole g c =
    let are = rw c.in-Ok-Ok.field-0-is at c.in-Ok-Ok.ensures in
    (read_whole c.args.version c.args.batches.now c.in-Ok-Ok.parts.items are).1
