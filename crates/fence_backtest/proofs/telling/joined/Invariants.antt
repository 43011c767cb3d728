use Rattle.std.proofs.Common.{◌≡◌, ℕ, List, length}
use Rattle.planar_geom.specs.Points.{Bounds}
use Rattle.world_data.specs.Worlds.{empty_world}
use Rattle.world_data.specs.declared.channels.Channel.{Channel}
use Rattle.world_data.specs.declared.worlds.Change.{Change}
use Rattle.fence_backtest.specs.Cuts.{front}
use Rattle.fence_backtest.specs.Telling.{AreTold, IsTold}
use Rattle.fence_backtest.proofs.telling.joined.Given as goal

abbrev pub invariant-loop-next : goal.invariant-loop-next
invariant-loop-next l = record {
  long : length l.counts.items ≡ 64;
  told : (c : Channel) (area : Bounds) (all : List Change) (size : ℕ) → AreTold c area all size l.told
      → IsTold c area 1 empty_world (front all size l.next-index) (record { text = l.text; total = l.total; counts = l.counts });
}
