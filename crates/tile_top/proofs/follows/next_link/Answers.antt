use Rattle.tile_top.proofs.Visiting.{nobody_later}
use Rattle.tile_top.proofs.follows.next_link.Goals as goal

pub returns-in-Err-clause-why : goal.returns-in-Err-clause-why
returns-in-Err-clause-why g c = nobody_later c.args.terms c.in-Err.stop (g.W.WaitForLinks.shows c.loop.wait).over
    (g.L.ReadyDoor.shows c.args.door.now) (g.L.ReadyDoor.shows c.loop.door) (g.L.ReadyDoor.shows c.look.new.door)
    (g.W.WaitForLinks.shows c.args.wait.now).faults (g.W.WaitForLinks.shows c.loop.wait).faults c.loop.invariant.door c.loop.invariant.looks
    (c.in-Err.ensures.why (g.W.WaitForLinks.shows c.args.wait.now).faults (g.W.WaitForLinks.shows c.loop.wait).faults
    (g.W.WaitForLinks.shows c.loop.wait).over)
