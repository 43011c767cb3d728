use Rattle.std.proofs.Common.{ℕ, take, length, ◌≡◌, Option}
use Rattle.byte_text.specs.Names.{Bytes}
use Rattle.world_data.specs.declared.worlds.World.{World}
use Rattle.fence_backtest.specs.Cuts.{part}
use Rattle.fence_backtest.specs.Standing.{IsPlaced, WentSo}
use Rattle.fence_backtest.proofs.standing.stretch_of.Given as goal

abbrev pub invariant-loop-at : goal.invariant-loop-at
invariant-loop-at l = record {
  long : length l.olds.items ≡ l.at;
  went : (places : Bytes → Option ℕ) (w : World) → IsPlaced l.key l.changes places w
      → WentSo l.key l.changes places w (take l.at (part l.changes l.from l.len)) l.named.entries l.emptied l.olds.items;
}
