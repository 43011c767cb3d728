use Rattle.std.proofs.Common.{ap, sym, ◌∙◌, arith}
use Rattle.std.specs.Prelude.{sum_by}
use Rattle.world_data.specs.Worlds.{is_at}
use Rattle.keyspace.specs.Entries.{objects_in}
use Rattle.record_writer.specs.Lengths.{HasFewFields, len_of}
use Rattle.record_writer.specs.ObjectSums.{changed_sum, new_sum}
use Rattle.world_store.specs.ListLaws.{found_holds}
use Rattle.world_store.proofs.stored_objects.exchange.Goals as goal

pub put_len-requires : goal.put_len-requires
put_len-requires c =
    let o = c.args.object in
    found_holds HasFewFields (is_at o.key o.id) (objects_in c.args.objects.now) c.in-Some.old (sym c.put.ensures.replaced ∙ c.in-Some.is) c.requires.fields

pub overflow_sub-result : goal.overflow_sub-result
overflow_sub-result c =
    let sum = changed_sum len_of c.args.object (objects_in c.args.objects.now) c.in-Some.old c.requires.sorted (sym c.put.ensures.replaced ∙ c.in-Some.is) in
    omega (arith, sum, c.put_len.ensures.value, c.requires.weighed)

pub returns-in-Some-clause-weighed : goal.returns-in-Some-clause-weighed
returns-in-Some-clause-weighed c =
    let sum = changed_sum len_of c.args.object (objects_in c.args.objects.now) c.in-Some.old c.requires.sorted (sym c.put.ensures.replaced ∙ c.in-Some.is) in
    let same = ap (sum_by len_of) c.put.ensures.objects in
    omega (arith, sum, same, c.put_len.ensures.value, c.requires.weighed)

pub returns-in-None-clause-weighed : goal.returns-in-None-clause-weighed
returns-in-None-clause-weighed c =
    let sum = new_sum len_of c.args.object (objects_in c.args.objects.now) (sym c.put.ensures.replaced ∙ c.in-None.is) in
    let same = ap (sum_by len_of) c.put.ensures.objects in
    omega (arith, sum, same, c.requires.weighed)
