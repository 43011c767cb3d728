use Rattle.std.proofs.Common.{◌≡◌, ◌≤◌}
use Rattle.std.specs.Prelude.{None}
use Rattle.tile_top.specs.Tellings.{KeepsTelling}
use Rattle.tile_top.proofs.follows.follow_turns.Given as goal

-- all worlds were told so far, and no link was shut
abbrev pub invariant-loop : goal.invariant-loop
invariant-loop g l = record {
  next : (goal.iterator-loop g).can_next l.iterator';
  finite : (goal.iterator-loop g).is_finite l.iterator';
  keeps : KeepsTelling None l.terms l.initial.follower l.follower l.initial.told l.told (g.K.Sink.held l.initial.sink) (g.K.Sink.held l.sink);
  shut : (g.W.WaitForLinks.shows l.wait).shut ≡ (g.W.WaitForLinks.shows l.initial.wait).shut;
  waits : (g.W.WaitForLinks.shows l.initial.wait).faults ≤ (g.W.WaitForLinks.shows l.wait).faults;
  sinks : g.K.Sink.faults l.initial.sink ≤ g.K.Sink.faults l.sink;
}
