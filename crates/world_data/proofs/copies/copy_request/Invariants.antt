use Rattle.std.proofs.Common.{◌≡◌, take}
use Rattle.world_data.proofs.copies.copy_request.Given as goal

-- the copy has the words that were passed
abbrev pub invariant-loop-at : goal.invariant-loop-at
invariant-loop-at l = l.copy ≡ take l.at l.words
