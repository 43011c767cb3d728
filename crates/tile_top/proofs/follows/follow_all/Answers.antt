use Rattle.std.proofs.Common.{rules, arith}
use Rattle.std.specs.Prelude.{None}
use Rattle.repl_node.specs.Following.{first_node}
use Rattle.tile_top.specs.Follows.{around}
use Rattle.tile_top.proofs.Visiting.{lost_more}
use Rattle.tile_top.proofs.follows.follow_all.Goals as goal

pub loop-preserved : goal.loop-preserved
loop-preserved g c = record {
  next = tt;
  finite = tt;
  lost = lost_more c.args.terms c.follow_next-stop.result.0
      (around first_node None (g.L.ReadyDoor.shows c.args.door.now) (g.W.WaitForLinks.shows c.args.wait.now) (g.K.Sink.held c.args.sink.now)
      (g.K.Sink.faults c.args.sink.now))
      (around c.loop.copied.node c.loop.copied.told (g.L.ReadyDoor.shows c.loop.door) (g.W.WaitForLinks.shows c.loop.wait)
      (g.K.Sink.held c.loop.sink) (g.K.Sink.faults c.loop.sink))
      (around c.follow_next-stop.result.1.node c.follow_next-stop.result.1.told (g.L.ReadyDoor.shows c.follow_next-stop.new.door)
      (g.W.WaitForLinks.shows c.follow_next-stop.new.wait) (g.K.Sink.held c.follow_next-stop.new.sink)
      (g.K.Sink.faults c.follow_next-stop.new.sink))
      (search rules) c.loop.invariant.lost c.follow_next-stop.ensures.follows;
  doors = omega (arith, c.loop.invariant.doors, c.follow_next-stop.ensures.door);
  waits = omega (arith, c.loop.invariant.waits, c.follow_next-stop.ensures.wait);
  sinks = omega (arith, c.loop.invariant.sinks, c.follow_next-stop.ensures.sink);
}
