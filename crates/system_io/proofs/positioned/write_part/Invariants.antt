use Rattle.std.proofs.Common.{◌≡◌}
use Rattle.system_io.proofs.positioned.write_part.Given as goal

abbrev pub invariant-loop : goal.invariant-loop
invariant-loop g l = g.F.Positioned.held l.file ≡ g.F.Positioned.held l.initial.file
