use Rattle.std.proofs.Common.{◌≡◌, true, subst, sym, List}
use Rattle.world_data.specs.declared.objects.Object.{Object}
use Rattle.collection.specs.Objects.{are_by_id}
use Rattle.collection.specs.IdOrder.{removed_by_id}
use Rattle.collection.proofs.collections.Collection.take_at.Goals as goal

pub invariant_of-self : goal.invariant_of-self
invariant_of-self g c =
    let items = c.self.inside.objects.objects in
    subst (λ (l : List Object). are_by_id l ≡ true) (sym c.remove.ensures.objects) (removed_by_id items c.args.i c.self.invariant)
