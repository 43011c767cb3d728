use Rattle.std.proofs.Common.{◌∙◌, ◌+◌, ◌∷◌, [], List, ap, sym, subst, arith, take, length, length-append}
use Rattle.world_data.specs.declared.worlds.Change.{Change}
use Rattle.log_record.specs.Folding.{folded}
use Rattle.fence_backtest.specs.Cuts.{part}
use Rattle.fence_backtest.specs.Standing.{WentSo}
use Rattle.fence_backtest.specs.declared.standing.Stood.{Stood}
use Rattle.fence_backtest.proofs.Cutting.{part_all, part_at}
use Rattle.fence_backtest.proofs.Tables.{went_more}
use Rattle.fence_backtest.proofs.standing.stretch_of.Goals as goal

pub loop-at-preserved : goal.loop-at-preserved
loop-at-preserved c =
    let key = c.args.key.now in
    let all = c.args.changes.now in
    let changes = part all c.args.from c.args.len in
    let at = c.loop-at.at in
    let change = c.at-change.result.now in
    let olds = c.loop-at.olds.items in
    let old = c.in_ok-old.old in
    let next = c.take_change.new.named.entries in
    let now = c.take_change.new.emptied in
    let here = part_at all c.args.from c.args.len at change c.loop-at-test.true c.at-change.ensures in
    record {
      long = ap (λ (l : List Stood). length l) c.in_ok-push.ensures.items ∙ omega (arith, length-append olds (old ∷ []), c.loop-at.invariant.long);
      went = λ places w placed.
          let went = c.loop-at.invariant.went places w placed in
          let so = c.in_ok-old.ensures all places (folded w (take at changes)) c.at-change.ensures went.next in
          subst (λ (os : List Stood). WentSo key all places w (take (at + 1) changes) next now os) (sym c.in_ok-push.ensures.items)
          (went_more key all places w changes at change c.loop-at.named.entries next c.loop-at.emptied now olds old here went so);
    }

pub returns-clause-goes : goal.returns-clause-goes
returns-clause-goes c = λ places w placed.
    let all = c.args.changes.now in
    let at = c.loop-at.at in
    let olds = c.loop-at.olds.items in
    subst (λ (l : List Change). WentSo c.args.key.now all places w l c.loop-at.named.entries c.loop-at.emptied olds)
    (part_all all c.args.from c.args.len at (length olds) (omega (arith, c.loop-at.auto.at-end, c.loop-at-test.false)) c.loop-at.invariant.long)
    (c.loop-at.invariant.went places w placed)
