use Rattle.shared_hall.specs.Cores.{tells}
use Rattle.shared_hall.specs.Seats.{first_writing, handed_of, knows_of}
use Rattle.tile_top.proofs.Fronting.{begun_still, fronts_behind}
use Rattle.tile_top.proofs.serves.serve_on.Goals as goal

pub returns-clause-serves : goal.returns-clause-serves
returns-clause-serves g c seen first begun =
    let s = c.serve_ready-status in
    fronts_behind knows_of (tells g.D.Disk.crashes g.D.Disk.seen (handed_of c.args.hall.now)) seen (first_writing c.args.hall.now) (g.C.Clock.told c.args.clock.now) _ (knows_of c.args.seat) (knows_of s.new.seat) (g.L.ReadyDoor.shows c.args.door.now)
    (g.L.ReadyDoor.shows s.new.door) (g.W.WaitForLinks.shows c.args.wait.now) (g.W.WaitForLinks.shows s.new.wait) (g.K.Sink.held c.args.sink.now)
    (g.K.Sink.held s.new.sink) _ s.result c.retire_hall.result.status c.retire_hall.result.front first begun s.ensures.serves c.retire_hall.ensures.front c.retire_hall.ensures.fed

pub returns-clause-counted : goal.returns-clause-counted
returns-clause-counted g c handed begun = c.retire_hall.ensures.counted handed
    (begun_still handed (knows_of c.args.seat).opening (knows_of c.serve_ready-status.new.seat).opening c.serve_ready-status.ensures.opening begun)
