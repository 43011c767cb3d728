use Rattle.std.proofs.Common.{◌≡◌, take}
use Rattle.fence_backtest.specs.Standing.{nowhere, places_behind}
use Rattle.fence_backtest.proofs.standing.place_behind.Given as goal

abbrev pub invariant-loop-stretch : goal.invariant-loop-stretch
invariant-loop-stretch l = l.place ≡ places_behind nowhere (take l.stretch-index l.stretches) l.id
