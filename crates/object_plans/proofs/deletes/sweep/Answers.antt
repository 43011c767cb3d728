use Rattle.std.proofs.Common.{◌≡◌, take, subst, List, arith}
use Rattle.std.proofs.lemmas.List.{take_all}
use Rattle.byte_text.specs.Globs.{glob_meets}
use Rattle.world_data.specs.declared.objects.Object.{Object}
use Rattle.record_writer.specs.Lengths.{HasFewFields}
use Rattle.object_plans.specs.Sweeps.{met, IsSweptOf}
use Rattle.object_plans.proofs.Sweeping.{next_swept, few_take, dels_short}
use Rattle.world_store.specs.ListLaws.{there_holds}
use Rattle.object_plans.specs.Weights.{some_sum}
use Rattle.record_writer.specs.ObjectSums.{next_weighs}
use Rattle.ordered_lists.specs.Reading.{each-filter}
use Rattle.object_plans.proofs.deletes.sweep.Goals as goal

pub sweep_one-requires-clause-few : goal.sweep_one-requires-clause-few
sweep_one-requires-clause-few c = there_holds HasFewFields c.args.objects.now.objects c.loop-i.i c.at.result.now c.at.ensures c.requires.few

pub sweep_one-requires-clause-small : goal.sweep_one-requires-clause-small
sweep_one-requires-clause-small c =
    let pattern = c.args.pattern.now in
    let front = take c.loop-i.i c.args.objects.now.objects in
    let short = dels_short (met pattern front) (each-filter HasFewFields (λ o. glob_meets pattern o.id) front (few_take c.args.objects.now.objects c.loop-i.i c.requires.few)) in
    omega (arith, short, c.loop-i.invariant.length_is, c.loop-i.invariant.weight_is, c.requires.light)

pub sweep_one-requires-clause-weighed : goal.sweep_one-requires-clause-weighed
sweep_one-requires-clause-weighed c =
    let front = take c.loop-i.i c.args.objects.now.objects in
    let part = some_sum (λ o. glob_meets c.args.pattern.now o.id) front in
    let next = next_weighs c.args.objects.now.objects c.loop-i.i c.at.result.now c.at.ensures in
    omega (arith, part, next, c.loop-i.invariant.weight_is, c.requires.weighed)

pub loop-i-preserved : goal.loop-i-preserved
loop-i-preserved c = next_swept c.args.pattern.now c.args.objects.now.objects c.loop-i.i c.at.result.now c.args.total c.loop-i.swept c.sweep_one.new.swept c.at.ensures c.loop-i.invariant c.in_ok-sweep_one.ensures

pub returns : goal.returns
returns c =
    let xs = c.args.objects.now.objects in
    let all : take c.loop-i.i xs ≡ xs = take_all c.loop-i.i xs (omega (arith, c.loop-i-test.false, c.len-i-end.ensures.count)) in
    subst (λ (ys : List Object). IsSweptOf c.args.pattern.now ys c.args.total c.loop-i.swept) all c.loop-i.invariant
