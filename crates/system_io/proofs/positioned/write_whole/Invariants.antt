use Rattle.std.proofs.Common.{◌≡◌, ◌+◌, ◌<◌, ◌≤◌, length, IfSome, option_map}
use Rattle.outside.specs.Disks.{write_over}
use Rattle.system_io.proofs.positioned.write_whole.Given as goal

abbrev pub invariant-loop-rest : goal.invariant-loop-rest
invariant-loop-rest g l = record {
  end : l.place + length l.rest ≡ l.at + length l.piece;
  left : option_map (write_over l.place l.rest) (g.F.Positioned.held l.file) ≡ option_map (write_over l.at l.piece) (g.F.Positioned.held l.initial.file);
  reached : length l.rest < length l.piece → IfSome (g.F.Positioned.held l.file) (λ s. l.place ≤ length s);
}

abbrev pub decreases-loop-rest : goal.decreases-loop-rest
decreases-loop-rest g l = length l.rest
