use Rattle.std.proofs.Common.{◌≡◌, Bor, subst, arith}
use Rattle.std.specs.Prelude.{Option, Some, None, find, IfSome, IfNone}
use Rattle.ordered_lists.specs.Lists.{put_in}
use Rattle.world_data.specs.Worlds.{object_before, is_at}
use Rattle.world_data.specs.declared.objects.Object.{Object}
use Rattle.keyspace.specs.Entries.{objects_in}
use Rattle.record_writer.specs.Lengths.{len_of, HasFewFields}
use Rattle.object_plans.specs.Weights.{weight_sum}
use Rattle.record_writer.specs.ObjectSums.{changed_sum, new_sum}
use Rattle.object_plans.specs.Standing.{found_holds, found_sum}
use Rattle.object_plans.proofs.puts.weight_after.Goals as goal

pub put_len-requires : goal.put_len-requires
put_len-requires c =
    let x = c.args._object.now in
    let xs = objects_in c.args._objects.now in
    let here = subst (λ (r : Option (Bor Object)). IfSome r (λ o. find (is_at x.key x.id) xs ≡ Some o.now)) c.in-Some.is c.requires.some in
    found_holds (is_at x.key x.id) c.in-Some.old.now HasFewFields xs here c.requires.kept.few

pub overflow_sub-result : goal.overflow_sub-result
overflow_sub-result c =
    let x = c.args._object.now in
    let xs = objects_in c.args._objects.now in
    let here = subst (λ (r : Option (Bor Object)). IfSome r (λ o. find (is_at x.key x.id) xs ≡ Some o.now)) c.in-Some.is c.requires.some in
    let part = found_sum (is_at x.key x.id) c.in-Some.old.now len_of xs here in
    omega (arith, part, weight_sum xs, c.put_len.ensures.value, c.requires.kept.weighed)

pub returns-in-Some : goal.returns-in-Some
returns-in-Some c =
    let x = c.args._object.now in
    let xs = objects_in c.args._objects.now in
    let here = subst (λ (r : Option (Bor Object)). IfSome r (λ o. find (is_at x.key x.id) xs ≡ Some o.now)) c.in-Some.is c.requires.some in
    let sum = changed_sum len_of x xs c.in-Some.old.now c.requires.kept.sorted here in
    omega (arith, sum, weight_sum xs, weight_sum (put_in object_before x xs), c.put_len.ensures.value, c.requires.kept.weighed, c.requires.length)

pub returns-in-None : goal.returns-in-None
returns-in-None c =
    let x = c.args._object.now in
    let xs = objects_in c.args._objects.now in
    let none = subst (λ (r : Option (Bor Object)). IfNone r (find (is_at x.key x.id) xs ≡ None)) c.in-None.is c.requires.none in
    let sum = new_sum len_of x xs none in
    omega (arith, sum, weight_sum xs, weight_sum (put_in object_before x xs), c.requires.kept.weighed, c.requires.length)
