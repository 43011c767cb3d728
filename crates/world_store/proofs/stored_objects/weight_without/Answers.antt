use Rattle.std.proofs.Common.{ap, subst, sym, arith}
use Rattle.std.specs.Prelude.{sum_by}
use Rattle.ordered_lists.specs.Reading.{each-filter}
use Rattle.world_data.specs.Worlds.{has_key}
use Rattle.keyspace.specs.Entries.{objects_in}
use Rattle.record_writer.specs.Lengths.{HasFewFields, len_of, HaveFewFields}
use Rattle.record_writer.specs.ObjectSums.{parts_sum}
use Rattle.world_store.proofs.stored_objects.weight_without.Goals as goal

pub weight_less-requires-clause-fields : goal.weight_less-requires-clause-fields
weight_less-requires-clause-fields c =
    let key = c.args.key.now in
    subst HaveFewFields (sym c.in-Some.ensures.some) (each-filter HasFewFields (has_key key) (objects_in c.args.objects.now) c.requires.fields)

pub weight_less-requires-clause-weighed : goal.weight_less-requires-clause-weighed
weight_less-requires-clause-weighed c =
    let parts = parts_sum len_of (has_key c.args.key.now) (objects_in c.args.objects.now) in
    let same = ap (sum_by len_of) c.in-Some.ensures.some in
    omega (arith, parts, same, c.requires.weighed)

pub returns-in-Some : goal.returns-in-Some
returns-in-Some c =
    let parts = parts_sum len_of (has_key c.args.key.now) (objects_in c.args.objects.now) in
    let same = ap (sum_by len_of) c.in-Some.ensures.some in
    omega (arith, parts, same, c.requires.weighed, c.weight_less.ensures)

pub returns-in-None : goal.returns-in-None
returns-in-None c =
    let parts = parts_sum len_of (has_key c.args.key.now) (objects_in c.args.objects.now) in
    let none = ap (sum_by len_of) c.in-None.ensures.none in
    omega (arith, parts, none, c.requires.weighed)
