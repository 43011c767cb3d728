use Rattle.tile_top.proofs.Visiting.{visited}
use Rattle.tile_top.proofs.follows.follow_next.Goals as goal

pub returns-in-Ok-clause-follows : goal.returns-in-Ok-clause-follows
returns-in-Ok-clause-follows g c =
    visited c.args.terms c.follow_one.result.0 (g.L.Link.ReadyLink.shows c.in-Ok.link) c.args.copied.node c.follow_one.result.1.node
    c.args.copied.told c.follow_one.result.1.told (g.L.ReadyDoor.shows c.args.door.now) (g.L.ReadyDoor.shows c.next_link.new.door)
    (g.W.WaitForLinks.shows c.args.wait.now) (g.W.WaitForLinks.shows c.next_link.new.wait) (g.W.WaitForLinks.shows c.follow_one.new.wait)
    (g.K.Sink.held c.args.sink.now) (g.K.Sink.held c.follow_one.new.sink) (g.K.Sink.faults c.args.sink.now)
    (g.K.Sink.faults c.follow_one.new.sink) c.in-Ok.ensures.looks.0 c.in-Ok.ensures.looks.1 c.next_link.ensures.door c.next_link.ensures.shut
    c.next_link.ensures.wait c.follow_one.ensures.wait c.follow_one.ensures.sink c.follow_one.ensures.follows
