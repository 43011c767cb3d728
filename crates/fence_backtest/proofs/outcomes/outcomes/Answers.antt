use Rattle.std.proofs.Common.{◌∙◌, ◌<◌, ◌+◌, ◌∷◌, [], List, sym, ap, subst, arith, take, length, length-append}
use Rattle.world_data.specs.declared.worlds.Change.{Change}
use Rattle.fence_backtest.specs.Cuts.{part}
use Rattle.fence_backtest.specs.Standing.{nowhere, places_behind}
use Rattle.fence_backtest.specs.Telling.{AreOutcomes}
use Rattle.fence_backtest.specs.declared.outcomes.Outcome.{Outcome}
use Rattle.fence_backtest.proofs.Cutting.{got, part_all, part_at}
use Rattle.fence_backtest.proofs.ReportLaws.{outcomes_more}
use Rattle.fence_backtest.proofs.outcomes.outcomes.Goals as goal

pub loop-at-preserved : goal.loop-at-preserved
loop-at-preserved c =
    let channel = c.args.channel.now in
    let all = c.args.changes.now in
    let s = c.args.stretch.now in
    let n = length s.olds in
    let changes = part all s.from n in
    let at = c.loop-at.at in
    let found = c.loop-at.found.items in
    let o = c.outcome_at.result in
    let within : at < n = omega (arith, c.loop-at-test.true, c.len-at-end.ensures) in
    let here = got all (s.from + at) (omega (arith, within, c.requires.within)) in
    let there = got s.olds at within in
    record {
      long = ap (λ (l : List Outcome). length l) c.in_ok-push.ensures.items ∙ omega (arith, length-append found (o ∷ []), c.loop-at.invariant.long);
      are = λ w stood.
          subst (λ (os : List Outcome). AreOutcomes channel c.args.area w (take (at + 1) changes) os) (sym c.in_ok-push.ensures.items)
          (outcomes_more channel c.args.area all (places_behind nowhere c.args.before.now) w changes s.olds at found here.0 there.0 o stood
          (part_at all s.from n at here.0 within here.1) there.1 (c.outcome_at.ensures here.0 there.0 here.1 there.1) (c.loop-at.invariant.are w stood));
    }

pub returns-clause-are : goal.returns-clause-are
returns-clause-are c = λ w stood.
    let s = c.args.stretch.now in
    let at = c.loop-at.at in
    subst (λ (l : List Change). AreOutcomes c.args.channel.now c.args.area w l c.loop-at.found.items)
    (part_all c.args.changes.now s.from (length s.olds) at (length s.olds) (omega (arith, c.loop-at.auto.at-end, c.loop-at-test.false, c.len-at-end.ensures)) (omega (arith, c.loop-at.auto.at-end, c.loop-at-test.false, c.len-at-end.ensures)))
    (c.loop-at.invariant.are w stood)
