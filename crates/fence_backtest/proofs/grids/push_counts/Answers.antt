use Rattle.std.proofs.Common.{◌∷◌, [], ◌∙◌, ◌++◌, ℕ, sym, ap}
use Rattle.fence_backtest.specs.Outcomes.{count_at}
use Rattle.fence_backtest.specs.Reports.{row_text}
use Rattle.fence_backtest.proofs.LineLaws.{flat_more}
use Rattle.fence_backtest.proofs.TallyLaws.{row_at}
use Rattle.fence_backtest.proofs.grids.push_counts.Goals as goal

pub loop-row-preserved : goal.loop-row-preserved
loop-row-preserved c =
    let text = λ (n : ℕ). row_text (count_at c.args.counts.now n) in
    flat_more text (0 ∷ 1 ∷ 2 ∷ 3 ∷ 4 ∷ 5 ∷ 6 ∷ 7 ∷ []) c.loop-row.row c.args.into.now c.loop-row.into c.push_row.new.into c.loop-row-test.true c.loop-row.invariant
    (c.in_ok-push_row.ensures ∙ ap (λ n. c.loop-row.into ++ text n) (sym (row_at c.loop-row.row c.loop-row-test.true)))
