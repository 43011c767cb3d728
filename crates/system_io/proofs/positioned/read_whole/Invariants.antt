use Rattle.std.proofs.Common.{◌≡◌, ◌-◌, ◌≤◌, length, IfSome}
use Rattle.system_io.proofs.Transfers.{IsRead}
use Rattle.system_io.proofs.positioned.read_whole.Given as goal

abbrev pub invariant-loop-got : goal.invariant-loop-got
invariant-loop-got g l = record {
  room : l.got ≤ length l.into;
  long : length l.into ≡ length l.initial.into;
  same : g.F.Positioned.held l.file ≡ g.F.Positioned.held l.initial.file;
  bytes : IfSome (g.F.Positioned.held l.initial.file) (IsRead l.at l.got l.into);
}

abbrev pub decreases-loop-got : goal.decreases-loop-got
decreases-loop-got g l = length l.into - l.got
