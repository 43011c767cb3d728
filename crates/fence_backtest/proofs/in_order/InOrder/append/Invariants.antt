use Rattle.std.proofs.Common.{◌≡◌, ◌++◌, map, take}
use Rattle.fence_backtest.proofs.in_order.InOrder.append.Given as goal

abbrev pub invariant-loop-change : goal.invariant-loop-change
invariant-loop-change l = map (λ change. change.now) l.self-inside.changes.items ≡ map (λ change. change.now) l.initial.self-inside.changes.items ++ take l.change-index l.others
