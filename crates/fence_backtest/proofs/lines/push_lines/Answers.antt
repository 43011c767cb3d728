use Rattle.std.proofs.Common.{◌≡◌, ◌∙◌, ◌<◌, ◌++◌, None, get_or, ap, arith, length}
use Rattle.std.specs.Prelude.{flat_map}
use Rattle.std.proofs.lemmas.Option.{slice_get-get_or}
use Rattle.fence_backtest.specs.Cuts.{part}
use Rattle.fence_backtest.specs.declared.outcomes.Outcome.{Outcome}
use Rattle.fence_backtest.proofs.Cutting.{part_at}
use Rattle.fence_backtest.proofs.LineLaws.{count_more, lines_all, text_more}
use Rattle.fence_backtest.proofs.lines.push_lines.Goals as goal

pub loop-at-preserved : goal.loop-at-preserved
loop-at-preserved c =
    let outcomes = c.args.outcomes.now in
    let from = c.args.from in
    let at = c.loop-at.at in
    let changes = part c.args.changes.now from (length outcomes) in
    let change = c.at.result.now in
    let nothing : Outcome = record { raised = record { first = None; second = None }; cell = None } in
    let o = get_or outcomes at nothing in
    let within : at < length outcomes = omega (arith, c.loop-at-test.true) in
    let here = part_at c.args.changes.now from (length outcomes) at change within c.at.ensures in
    let there = slice_get-get_or outcomes at nothing within in
    record {
      text = text_more from at changes outcomes change o here there c.args.into.now c.loop-at.into c.push_outcome.new.into c.loop-at.invariant.text c.in_ok-count.ensures.text;
      count = count_more from at changes outcomes change o here there c.loop-at.total c.in_ok-count.count c.loop-at.invariant.count c.in_ok-count.ensures.count;
      small = omega (arith, c.loop-at.invariant.small, c.in_ok-count.ensures.few);
    }

pub returns-clause-text : goal.returns-clause-text
returns-clause-text c =
    let at : c.loop-at.at ≡ length c.args.outcomes.now = omega (arith, c.loop-at.auto.at-end, c.loop-at-test.false) in
    c.loop-at.invariant.text ∙ ap (λ l. c.args.into.now ++ flat_map (λ line. line) l) (lines_all c.args.changes.now c.args.from c.loop-at.at c.args.outcomes.now at)

pub returns-clause-count : goal.returns-clause-count
returns-clause-count c =
    let at : c.loop-at.at ≡ length c.args.outcomes.now = omega (arith, c.loop-at.auto.at-end, c.loop-at-test.false) in
    c.loop-at.invariant.count ∙ ap (λ l. length l) (lines_all c.args.changes.now c.args.from c.loop-at.at c.args.outcomes.now at)
