use Rattle.std.proofs.Common.{◌≡◌, take, length}
use Rattle.world_data.specs.declared.worlds.World.{World}
use Rattle.fence_backtest.specs.Cuts.{part}
use Rattle.fence_backtest.specs.Standing.{AreStood, nowhere, places_behind}
use Rattle.fence_backtest.specs.Telling.{AreOutcomes}
use Rattle.fence_backtest.proofs.outcomes.outcomes.Given as goal

abbrev pub invariant-loop-at : goal.invariant-loop-at
invariant-loop-at l = record {
  long : length l.found.items ≡ l.at;
  are : (w : World) → AreStood l.channel.fence.key l.changes (places_behind nowhere l.before) w (part l.changes l.stretch.from (length l.stretch.olds)) l.stretch.olds
      → AreOutcomes l.channel l.area w (take l.at (part l.changes l.stretch.from (length l.stretch.olds))) l.found.items;
}
