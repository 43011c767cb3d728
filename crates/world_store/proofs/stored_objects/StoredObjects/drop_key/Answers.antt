use Rattle.std.proofs.Common.{◌∙◌, not, ap, sym, subst, List, length, arith}
use Rattle.std.specs.Prelude.{sum_by}
use Rattle.ordered_lists.specs.Reading.{each-filter, filter-most}
use Rattle.world_data.specs.Worlds.{has_key}
use Rattle.world_data.specs.declared.objects.Object.{Object}
use Rattle.keyspace.specs.Entries.{objects_in}
use Rattle.record_writer.specs.Lengths.{HasFewFields, len_of, HaveFewFields}
use Rattle.world_store.proofs.stored_objects.StoredObjects.drop_key.Goals as goal

pub invariant_of-self : goal.invariant_of-self
invariant_of-self c =
    let xs = objects_in c.self.inside.objects in
    let other = λ (o : Object). not (has_key c.args.key.now o) in
    record {
      weighed = c.weight_without-self-inside.ensures ∙ ap (sum_by len_of) (sym c.drop_key.ensures.objects);
      fields = subst HaveFewFields (sym c.drop_key.ensures.objects) (each-filter HasFewFields other xs c.self.invariant.fields);
      few = omega (arith, filter-most other xs, ap (λ (l : List Object). length l) c.drop_key.ensures.objects, c.self.invariant.few);
    }
