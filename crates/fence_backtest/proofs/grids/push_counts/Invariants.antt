use Rattle.std.proofs.Common.{◌≡◌, ◌++◌, ◌∷◌, [], take}
use Rattle.std.specs.Prelude.{flat_map}
use Rattle.fence_backtest.specs.Reports.{row_text}
use Rattle.fence_backtest.specs.Outcomes.{count_at}
use Rattle.fence_backtest.proofs.grids.push_counts.Given as goal

abbrev pub invariant-loop-row : goal.invariant-loop-row
invariant-loop-row l = l.into ≡ l.initial.into ++ flat_map (λ row. row_text (count_at l.counts row)) (take l.row (0 ∷ 1 ∷ 2 ∷ 3 ∷ 4 ∷ 5 ∷ 6 ∷ 7 ∷ []))
