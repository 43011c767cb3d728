use Rattle.std.proofs.Common.{length}
use Rattle.fence_backtest.proofs.ReportLaws.{are_told}
use Rattle.fence_backtest.proofs.telling.tell_each.Goals as goal

pub returns-in-Ok-Ok : goal.returns-in-Ok-Ok
returns-in-Ok-Ok g c =
    let stretches = c.args.stretches.now in
    are_told c.args.channel.now c.args.area c.args.changes.now stretches.size (length stretches.list.items) c.in-Ok-Ok.told.items c.requires.are.cut
    (rw c.in-Ok-Ok.field-0-is at c.in-Ok-Ok.ensures)
