use Rattle.shared_hall.proofs.Outliving.{histories_live}
use Rattle.shared_hall.proofs.laws.histories_are_lives.Goals as goal

pub returns : goal.returns
returns g c = histories_live g.D.Disk.seen g.D.Disk.images g.D.Disk.left_since
