use Rattle.std.proofs.Common.{◌+◌, ◌<◌, ◌^◌, refl, ap, sym, subst, List, length, arith}
use Rattle.ordered_lists.specs.Ascending.{each-put_in}
use Rattle.world_data.specs.Worlds.{object_before}
use Rattle.world_data.specs.declared.objects.Object.{Object}
use Rattle.keyspace.specs.Entries.{objects_in}
use Rattle.record_writer.specs.Lengths.{HasFewFields, HaveFewFields}
use Rattle.world_store.proofs.stored_objects.StoredObjects.put.Goals as goal

pub invariant_of-self-2 : goal.invariant_of-self-2
invariant_of-self-2 c =
    let xs = objects_in c.self.inside.objects in
    let more = objects_in c.prepare.new.self in
    let fields = subst HaveFewFields (sym c.prepare.ensures.objects) c.self.invariant.fields in
    let same = ap (λ (l : List Object). length l) c.prepare.ensures.objects in
    let few : length xs + 1 < 2 ^ 32 = c.if-not-may_count.ensures.few refl in
    record {
      weighed = c.exchange-self-inside.ensures.weighed;
      fields = subst HaveFewFields (sym c.exchange-self-inside.ensures.objects) (each-put_in HasFewFields object_before c.args.object more c.requires fields);
      few = omega (arith, few, same, c.exchange-self-inside.ensures.len);
    }
