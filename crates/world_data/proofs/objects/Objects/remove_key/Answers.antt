use Rattle.std.proofs.Common.{◌≡◌, true, not, rules, sym, subst}
use Rattle.std.proofs.lemmas.Fn.{filter_same}
use Rattle.world_data.specs.Worlds.{are_objects, object_before, has_key}
use Rattle.ordered_lists.specs.Ascending.{ascends-filter}
use Rattle.world_data.proofs.objects.Objects.remove_key.Goals as goal

pub returns : goal.returns
returns c = rw (← c.self.view_is) (filter_same _ (λ o. not (has_key c.args.key.now o)) _ (λ x b f' k. search rules) _ _ c.retain.ensures.filtered)

pub invariant_of-self : goal.invariant_of-self
invariant_of-self c = subst (λ os. are_objects os ≡ true) (sym (filter_same _ (λ o. not (has_key c.args.key.now o)) _ (λ x b f' k. search rules) _ _ c.retain.ensures.filtered))
    (ascends-filter object_before (λ o. not (has_key c.args.key.now o)) c.self.inside.list.items c.self.invariant)
