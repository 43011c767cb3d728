use Rattle.std.proofs.Common.{sym, subst}
use Rattle.shared_hall.specs.Cores.{IsOpenedOn}
use Rattle.shared_hall.specs.OpeningLaws.{is_opened_on}
use Rattle.server_trials.proofs.halls.hall_over.Goals as goal

pub new-requires : goal.new-requires
new-requires g c = subst (IsOpenedOn g.D.Disk.crashes g.D.Disk.seen g.D.Disk.images g.D.Disk.moment g.D.Disk.left_since g.D.Disk.faults c.in-Ok.core) (sym c.of-handed.ensures)
    (is_opened_on g.D.Disk.crashes g.D.Disk.seen g.D.Disk.images g.D.Disk.moment g.D.Disk.left_since g.D.Disk.faults c.in-Ok.core c.args.disk
    c.in-Ok.ensures.hall c.in-Ok.ensures.sound c.in-Ok.ensures.told c.in-Ok.ensures.log c.in-Ok.ensures.safe c.in-Ok.ensures.grown c.in-Ok.ensures.leaves_grown)
