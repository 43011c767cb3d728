use Rattle.std.proofs.Common.{ap, sym, ◌∙◌, arith}
use Rattle.std.specs.Prelude.{sum_by}
use Rattle.world_data.specs.Worlds.{is_at}
use Rattle.keyspace.specs.Entries.{objects_in}
use Rattle.record_writer.specs.Lengths.{HasFewFields, len_of}
use Rattle.record_writer.specs.ObjectSums.{taken_sum}
use Rattle.world_store.specs.ListLaws.{found_holds, none_found}
use Rattle.world_store.proofs.stored_objects.take_one.Goals as goal

pub put_len-requires : goal.put_len-requires
put_len-requires c =
    found_holds HasFewFields (is_at c.args.key.now c.args.id.now) (objects_in c.args.objects.now) c.in-Some.taken (sym c.take_out.ensures.taken ∙ c.in-Some.is) c.requires.fields

pub overflow_sub-result : goal.overflow_sub-result
overflow_sub-result c =
    let sum = taken_sum len_of c.args.key.now c.args.id.now (objects_in c.args.objects.now) c.in-Some.taken c.len-count.ensures.sorted (sym c.take_out.ensures.taken ∙ c.in-Some.is) in
    omega (arith, sum, c.put_len.ensures.value, c.requires.weighed)

pub returns-in-Some-clause-weighed : goal.returns-in-Some-clause-weighed
returns-in-Some-clause-weighed c =
    let sum = taken_sum len_of c.args.key.now c.args.id.now (objects_in c.args.objects.now) c.in-Some.taken c.len-count.ensures.sorted (sym c.take_out.ensures.taken ∙ c.in-Some.is) in
    let same = ap (sum_by len_of) c.take_out.ensures.objects in
    omega (arith, sum, same, c.put_len.ensures.value, c.requires.weighed)

pub returns-in-None-clause-weighed : goal.returns-in-None-clause-weighed
returns-in-None-clause-weighed c =
    let none = ap (sum_by len_of) (none_found (is_at c.args.key.now c.args.id.now) (objects_in c.args.objects.now) (sym c.take_out.ensures.taken ∙ c.in-None.is)) in
    let same = ap (sum_by len_of) c.take_out.ensures.objects in
    omega (arith, none, same, c.requires.weighed)
