use Rattle.std.proofs.Common.{◌≡◌, ◌++◌, ◌∷◌, [], take}
use Rattle.std.specs.Prelude.{decimal, flat_map}
use Rattle.fence_backtest.specs.Outcomes.{count_at}
use Rattle.fence_backtest.proofs.grids.push_row.Given as goal

abbrev pub invariant-loop-later : goal.invariant-loop-later
invariant-loop-later l = l.into ≡ l.initial.into ++ flat_map (λ column. 32 ∷ decimal (count_at l.counts l.row column)) (take l.later (1 ∷ 2 ∷ 3 ∷ 4 ∷ 5 ∷ 6 ∷ 7 ∷ []))
