use Rattle.std.proofs.Common.{◌∙◌}
use Rattle.replay_run.specs.BackLaws.{untouched}
use Rattle.replay_run.proofs.Reopening.{opening_stands}
use Rattle.replay_run.proofs.acts.Player.open.Goals as goal

pub returns-in-Ok-clause-stands : goal.returns-in-Ok-clause-stands
returns-in-Ok-clause-stands g c s told crash =
    let e = c.in-Ok.ensures in
    opening_stands g.D.Disk.crashes g.D.Disk.seen g.D.Disk.images g.D.Disk.moment g.D.Disk.left_since g.D.Disk.faults c.in-Ok.core (g.D.Disk.moment c.args.disk) _ (e.safe s told crash) e.hall e.sound (e.log s told) (e.told ∙ crash)

pub returns-in-Err-clause-back : goal.returns-in-Err-clause-back
returns-in-Err-clause-back g c = record { reads = c.in-Err.ensures.same; leaves = c.in-Err.ensures.leaves }
