use Rattle.std.proofs.Common.{◌≡◌, ◌-◌}
use Rattle.append_log.proofs.Passing.{Passes}
use Rattle.append_log.proofs.side_ends.End.find.Given as goal

abbrev pub invariant-loop-reader : goal.invariant-loop-reader
invariant-loop-reader g l = record {
  side : l.reader.side ≡ l.initial.reader.side;
  len : l.reader.len ≡ l.initial.reader.len;
  passes : Passes g.D.Disk.crashes g.D.Disk.seen g.D.Disk.images g.D.Disk.moment g.D.Disk.left_since g.D.Disk.faults l.initial.reader.side l.initial.reader.len l.initial.reader.at l.initial.disk l.disk l.reader.at;
}

abbrev pub decreases-loop-reader : goal.decreases-loop-reader
decreases-loop-reader g l = l.reader.len - l.reader.at
