use Rattle.std.proofs.Common.{◌≡◌, length}
use Rattle.system_io.proofs.positioned.read_part.Given as goal

abbrev pub invariant-loop : goal.invariant-loop
invariant-loop g l = record {
  long : length l.into ≡ length l.initial.into;
  same : g.F.Positioned.held l.file ≡ g.F.Positioned.held l.initial.file;
}
