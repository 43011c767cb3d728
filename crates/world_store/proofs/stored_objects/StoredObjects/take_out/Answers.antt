use Rattle.std.proofs.Common.{◌∙◌, not, ap, sym, subst, List, length, arith}
use Rattle.std.specs.Prelude.{sum_by}
use Rattle.ordered_lists.specs.Reading.{each-filter, filter-most}
use Rattle.world_data.specs.Worlds.{is_at}
use Rattle.world_data.specs.declared.objects.Object.{Object}
use Rattle.keyspace.specs.Entries.{objects_in}
use Rattle.record_writer.specs.Lengths.{HasFewFields, len_of, HaveFewFields}
use Rattle.world_store.proofs.stored_objects.StoredObjects.take_out.Goals as goal

pub invariant_of-self : goal.invariant_of-self
invariant_of-self c =
    let xs = objects_in c.self.inside.objects in
    let other = λ (o : Object). not (is_at c.args.key.now c.args.id.now o) in
    let left = c.give_up.ensures.objects ∙ c.take_one-self-inside.ensures.objects in
    record {
      weighed = c.take_one-self-inside.ensures.weighed ∙ ap (sum_by len_of) (sym c.give_up.ensures.objects);
      fields = subst HaveFewFields (sym left) (each-filter HasFewFields other xs c.self.invariant.fields);
      few = omega (arith, filter-most other xs, ap (λ (l : List Object). length l) left, c.self.invariant.few);
    }
