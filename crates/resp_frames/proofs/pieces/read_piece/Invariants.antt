use Rattle.std.proofs.Common.{◌≤◌, ◌-◌, length}
use Rattle.resp_frames.proofs.ScanLaws.{Reached}
use Rattle.resp_frames.proofs.pieces.read_piece.Given as goal

abbrev pub invariant-loop-at : goal.invariant-loop-at
invariant-loop-at l = Reached l.fn.place l.piece l.at l.place × (l.at ≤ length l.piece)

abbrev pub decreases-loop-at : goal.decreases-loop-at
decreases-loop-at l = length l.piece - l.at
