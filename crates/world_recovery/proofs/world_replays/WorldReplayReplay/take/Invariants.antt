use Rattle.std.proofs.Common.{length, take, ◌-◌, ◌≤◌, ◌++◌, ℕ, List}
use Rattle.byte_text.specs.Names.{Bytes}
use Rattle.world_recovery.specs.Replayed.{StandsFor}
use Rattle.world_recovery.proofs.world_replays.WorldReplayReplay.take.Given as goal

abbrev pub invariant-loop-at : goal.invariant-loop-at
invariant-loop-at l = record {
  within : l.at ≤ length l.piece;
  took : (v : ℕ) → (batches : List Bytes) → (part : Bytes) → StandsFor l.fn.self v batches part → StandsFor l.self v batches (part ++ take l.at l.piece);
}

abbrev pub decreases-loop-at : goal.decreases-loop-at
decreases-loop-at l = length l.piece - l.at
