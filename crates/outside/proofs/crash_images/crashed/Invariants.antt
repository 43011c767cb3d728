use Rattle.std.proofs.Common.{◌≡◌, length}
use Rattle.outside.specs.DiskCalls.{chosen}
use Rattle.outside.proofs.crash_images.crashed.Given as goal

abbrev pub invariant-loop-rest : goal.invariant-loop-rest
invariant-loop-rest l = chosen l.contents l.rest l.digits ≡ chosen l.fn.first l.fn.calls l.fn.choice

abbrev pub decreases-loop-rest : goal.decreases-loop-rest
decreases-loop-rest l = length l.rest
