use Rattle.std.proofs.Common.{◌≡◌, ◌≤◌}
use Rattle.std.specs.Prelude.{None}
use Rattle.repl_node.specs.Following.{first_node}
use Rattle.tile_top.specs.Follows.{around}
use Rattle.tile_top.proofs.Visiting.{HasLost}
use Rattle.tile_top.proofs.follows.follow_all.Given as goal

-- each link so far was lost
abbrev pub invariant-loop : goal.invariant-loop
invariant-loop g l = record {
  next : (goal.iterator-loop g).can_next l.iterator';
  finite : (goal.iterator-loop g).is_finite l.iterator';
  lost : HasLost l.terms
      (around first_node None (g.L.ReadyDoor.shows l.initial.door) (g.W.WaitForLinks.shows l.initial.wait) (g.K.Sink.held l.initial.sink) (g.K.Sink.faults l.initial.sink))
      (around l.copied.node l.copied.told (g.L.ReadyDoor.shows l.door) (g.W.WaitForLinks.shows l.wait) (g.K.Sink.held l.sink) (g.K.Sink.faults l.sink));
  doors : (g.L.ReadyDoor.shows l.initial.door).faults ≤ (g.L.ReadyDoor.shows l.door).faults;
  waits : (g.W.WaitForLinks.shows l.initial.wait).faults ≤ (g.W.WaitForLinks.shows l.wait).faults;
  sinks : g.K.Sink.faults l.initial.sink ≤ g.K.Sink.faults l.sink;
}
