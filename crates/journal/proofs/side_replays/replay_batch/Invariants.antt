use Rattle.std.proofs.Common.{◌≡◌, ◌≤◌, ℕ, List, []}
use Rattle.byte_text.specs.Names.{Bytes}
use Rattle.journal.specs.Openings.{Looked}
use Rattle.journal.specs.Replaying.{TookPiece}
use Rattle.journal.proofs.side_replays.replay_batch.Given as goal

abbrev pub invariant-pieces : goal.invariant-pieces
invariant-pieces g l = record {
  side : l.reader.side ≡ l.initial.reader.side;
  len : l.reader.len ≡ l.initial.reader.len;
  on : l.initial.reader.at ≤ l.reader.at;
  looked : Looked g.D.Disk.crashes g.D.Disk.seen g.D.Disk.images g.D.Disk.moment g.D.Disk.left_since g.D.Disk.faults l.initial.reader.side l.initial.disk l.disk;
  took : (v : ℕ) (batches : List Bytes) → g.R.Replay.took l.initial.replay v batches []
      → TookPiece g.R.Replay.took g.R.Replay.fault g.D.Disk.crashes g.D.Disk.seen g.D.Disk.images l.initial.disk l.initial.reader.side v batches [] l.initial.reader.len l.initial.reader.left l.initial.reader.at l.reader.left l.reader.at l.replay;
}

abbrev pub decreases-pieces : goal.decreases-pieces
decreases-pieces g l = l.reader.left
