use Rattle.std.proofs.Common.{length}
use Rattle.ws_front.proofs.Standing.{Standing}
use Rattle.ws_front.proofs.frames.frame_end.Given as goal

abbrev pub invariant-loop-due : goal.invariant-loop-due
invariant-loop-due l = Standing l.bytes l.rest l.due

abbrev pub decreases-loop-due : goal.decreases-loop-due
decreases-loop-due l = length l.rest
