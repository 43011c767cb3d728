use Rattle.std.proofs.Common.{◌≡◌, ◌+◌, take, ap, sym, ◌∙◌, List, arith}
use Rattle.std.specs.Prelude.{sum_by}
use Rattle.std.proofs.lemmas.List.{take_all}
use Rattle.world_data.specs.declared.objects.Object.{Object}
use Rattle.record_writer.specs.Lengths.{HasFewFields, len_of}
use Rattle.record_writer.specs.ObjectSums.{next_weighs, next_sum}
use Rattle.world_store.specs.ListLaws.{there_holds}
use Rattle.world_store.proofs.weights.weight_less.Goals as goal

pub put_len-rest-requires : goal.put_len-rest-requires
put_len-rest-requires c = there_holds HasFewFields c.args.objects.now.objects c.loop-i.i c.at.result.now c.at.ensures c.requires.fields

pub overflow_sub-rest : goal.overflow_sub-rest
overflow_sub-rest c =
    let next = next_weighs c.args.objects.now.objects c.loop-i.i c.at.result.now c.at.ensures in
    omega (arith, next, c.loop-i.invariant, c.put_len-rest.ensures.value, c.requires.weighed)

pub loop-i-preserved : goal.loop-i-preserved
loop-i-preserved c =
    let next = next_weighs c.args.objects.now.objects c.loop-i.i c.at.result.now c.at.ensures in
    let sum = next_sum len_of c.args.objects.now.objects c.loop-i.i c.at.result.now c.at.ensures in
    omega (arith, next, sum, c.loop-i.invariant, c.put_len-rest.ensures.value, c.requires.weighed)

pub returns : goal.returns
returns c =
    let xs = c.args.objects.now.objects in
    let all : take c.loop-i.i xs ≡ xs = take_all c.loop-i.i xs (omega (arith, c.loop-i-test.false, c.len-i-end.ensures.count)) in
    ap (λ (ys : List Object). c.loop-i.rest + sum_by len_of ys) (sym all) ∙ c.loop-i.invariant
