use Rattle.std.proofs.Common.{length, ◌-◌}
use Rattle.repl_node.specs.LogWorlds.{HasTaken}
use Rattle.repl_node.proofs.log_worlds.LogWorld.fold_on.Given as goal

-- the batches that were taken
abbrev pub invariant-loop-at : goal.invariant-loop-at
invariant-loop-at l = record { taken : HasTaken l.log (record { replay = l.replay; at = l.at }) }

abbrev pub decreases-loop-at : goal.decreases-loop-at
decreases-loop-at l = length l.log - l.at
