use Rattle.std.proofs.Common.{◌≡◌, take}
use Rattle.byte_text.specs.Requests.{total}
use Rattle.live_fence.proofs.pairs.bytes_of.Given as goal

abbrev pub invariant-loop-at : goal.invariant-loop-at
invariant-loop-at l = l.sum ≡ total (take l.at l.request)
