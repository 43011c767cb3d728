use Rattle.std.proofs.Common.{◌≡◌, drop}
use Rattle.live_fence.specs.FenceWord.{has_fence}
use Rattle.live_fence.proofs.pairs.has_fence.Given as goal

-- the words that are left have FENCE just where all have it
abbrev pub invariant-loop-at : goal.invariant-loop-at
invariant-loop-at l = has_fence (drop l.at l.request) ≡ has_fence l.request
