use Rattle.replay_run.proofs.Calling.{comes_as}
use Rattle.replay_run.proofs.acts.Player.close.Goals as goal

pub returns : goal.returns
returns g c = record { made = comes_as g.D.Disk.crashes g.D.Disk.seen g.D.Disk.images g.D.Disk.moment g.D.Disk.left_since g.D.Disk.faults c.args.self.now.core c.close.new.core _ _ _ _ c.close.result c.close.ensures.made (λ out deeds made. (made, c.drop_reader.ensures)) (λ halt deeds f. f) }
