use Rattle.std.proofs.Common.{◌≡◌, ◌≤◌, false}
use Rattle.durable_core.specs.Logged.{hall_of, disk_of}
use Rattle.replay_run.specs.Traces.{trace}
use Rattle.replay_run.specs.Standing.{Left, StaysSafe}
use Rattle.replay_run.proofs.Feeding.{Goes, left_of}
use Rattle.replay_run.proofs.feeds.feed_reader.Given as goal

abbrev pub invariant-loop-out : goal.invariant-loop-out
invariant-loop-out g l = record {
  goes : Left (StaysSafe g.D.Disk.crashes g.D.Disk.seen g.D.Disk.images g.D.Disk.moment g.D.Disk.left_since g.D.Disk.faults l.initial.core l.core)
      (λ deeds. Goes (hall_of l.initial.core) l.initial.reader.session l.moment l.initial.reader.unread l.bytes (hall_of l.core) l.reader.unread l.rest (trace deeds l.out));
  session : l.reader.session ≡ l.initial.reader.session;
  going : (hall_of l.core).stopped ≡ false;
  later : g.D.Disk.faults (disk_of l.initial.core) ≤ g.D.Disk.faults (disk_of l.core);
}

abbrev pub decreases-loop-out : goal.decreases-loop-out
decreases-loop-out g l = left_of l.reader.unread l.rest
