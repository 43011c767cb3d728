use Rattle.std.proofs.Common.{◌≡◌, ◌++◌, ◌-◌, ◌≤◌, List, drop, length}
use Rattle.world_data.specs.declared.worlds.Change.{Change}
use Rattle.log_record.specs.Batches.{records_in}
use Rattle.fence_backtest.specs.Replayed.{with_all}
use Rattle.fence_backtest.proofs.records.push_changes.Given as goal

abbrev pub invariant-loop-at : goal.invariant-loop-at
invariant-loop-at l = record {
  within : l.at ≤ length l.batch;
  read : (read : List Change) × (l.changes ≡ l.initial.changes ++ read) × (records_in l.version 0 l.batch ≡ with_all read (records_in l.version l.at (drop l.at l.batch)));
}

abbrev pub decreases-loop-at : goal.decreases-loop-at
decreases-loop-at l = length l.batch - l.at
