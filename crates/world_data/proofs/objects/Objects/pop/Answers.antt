use Rattle.std.proofs.Common.{◌≡◌, true, subst}
use Rattle.world_data.specs.Worlds.{are_objects, object_before}
use Rattle.ordered_lists.specs.Ascending.{ascends-left}
use Rattle.world_data.proofs.objects.Objects.pop.Goals as goal

pub invariant_of-self : goal.invariant_of-self
invariant_of-self c = ascends-left object_before c.pop.new.self.items _ (subst (λ os. are_objects os ≡ true) c.pop.ensures.items c.self.invariant)
