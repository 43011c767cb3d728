use Rattle.std.proofs.Common.{◌≡◌, ◌-◌}
use Rattle.journal.specs.Openings.{Looked}
use Rattle.journal.proofs.Looking.{TookSome}
use Rattle.journal.proofs.side_replays.replay_side.Given as goal

abbrev pub invariant-batches : goal.invariant-batches
invariant-batches g l = record {
  side : l.reader.side ≡ l.initial.reader.side;
  len : l.reader.len ≡ l.initial.reader.len;
  looked : Looked g.D.Disk.crashes g.D.Disk.seen g.D.Disk.images g.D.Disk.moment g.D.Disk.left_since g.D.Disk.faults l.initial.reader.side l.initial.disk l.disk;
  some : TookSome g.R.Replay.took g.R.Replay.fault g.D.Disk.crashes g.D.Disk.seen g.D.Disk.images l.initial.reader.side l.version l.initial.reader.len l.initial.reader.at l.reader.at l.initial.disk l.replay;
}

abbrev pub decreases-batches : goal.decreases-batches
decreases-batches g l = l.reader.len - l.reader.at
