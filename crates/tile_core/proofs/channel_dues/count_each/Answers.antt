use Rattle.std.proofs.Common.{refl, ◌∙◌, subst, List, arith}
use Rattle.std.proofs.lemmas.List.{take_all}
use Rattle.world_data.specs.declared.channels.Channel.{Channel}
use Rattle.tile_core.specs.Dues.{AreCounted}
use Rattle.tile_core.proofs.Counting.{counted_more, counted_none, is_heavy}
use Rattle.tile_core.proofs.channel_dues.count_each.Goals as goal

pub loop-i-init : goal.loop-i-init
loop-i-init c = record { counted = counted_none c.args.total c.args.due_from; due_from = refl }

pub count_one-gone-requires-clause-heavy : goal.count_one-gone-requires-clause-heavy
count_one-gone-requires-clause-heavy c =
    let l = c.loop-i in
    is_heavy c.args.total c.args.out.now l.i c.at.result.now l.gone c.at.ensures l.invariant.counted c.requires.weighed

pub count_one-gone-requires-clause-small : goal.count_one-gone-requires-clause-small
count_one-gone-requires-clause-small c = let small = c.loop-i.invariant.counted.small in omega (arith, small, c.requires.light)

pub loop-i-preserved : goal.loop-i-preserved
loop-i-preserved c =
    let l = c.loop-i in
    record {
      counted = counted_more c.args.total c.args.out.now l.i c.at.result.now l.gone c.at.ensures l.invariant.counted c.count_one-gone.result c.count_one-gone.ensures.length c.count_one-gone.ensures.weight c.count_one-gone.ensures.small;
      due_from = c.count_one-gone.ensures.due_from ∙ l.invariant.due_from;
    }

pub returns-clause-counted : goal.returns-clause-counted
returns-clause-counted c =
    let l = c.loop-i in
    subst (λ (cs : List Channel). AreCounted c.args.total cs l.gone) (take_all l.i c.args.out.now (omega (arith, c.loop-i-test.false, c.len-i-end.ensures))) l.invariant.counted
