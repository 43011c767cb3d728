use Rattle.std.proofs.Common.{◌∷◌, [], ◌∙◌, ◌++◌, ℕ, sym, ap}
use Rattle.std.specs.Prelude.{decimal}
use Rattle.fence_backtest.specs.Outcomes.{count_at}
use Rattle.fence_backtest.proofs.LineLaws.{flat_more}
use Rattle.fence_backtest.proofs.TallyLaws.{later_at}
use Rattle.fence_backtest.proofs.grids.push_row.Goals as goal

pub loop-later-preserved : goal.loop-later-preserved
loop-later-preserved c =
    let word = λ (n : ℕ). 32 ∷ decimal (count_at c.args.counts.now c.args.row n) in
    flat_more word (1 ∷ 2 ∷ 3 ∷ 4 ∷ 5 ∷ 6 ∷ 7 ∷ []) c.loop-later.later c.push_u64.new.into c.loop-later.into c.push_later.new.into c.loop-later-test.true c.loop-later.invariant
    (c.in_ok-push_later.ensures ∙ ap (λ n. c.loop-later.into ++ word n) (sym (later_at c.loop-later.later c.loop-later-test.true)))
