use Rattle.std.proofs.Common.{◌≡◌, true, not, rules, sym, subst}
use Rattle.std.proofs.lemmas.Fn.{filter_same}
use Rattle.world_data.specs.Worlds.{are_channels, channel_before, is_named}
use Rattle.ordered_lists.specs.Ascending.{ascends-filter}
use Rattle.world_data.proofs.channels.Channels.remove.Goals as goal

pub returns : goal.returns
returns c = rw (← c.self.view_is) (filter_same _ (λ o. not (is_named c.args.name.now o)) _ (λ x b f' k. search rules) _ _ c.retain.ensures.filtered)

pub invariant_of-self : goal.invariant_of-self
invariant_of-self c = subst (λ os. are_channels os ≡ true) (sym (filter_same _ (λ o. not (is_named c.args.name.now o)) _ (λ x b f' k. search rules) _ _ c.retain.ensures.filtered))
    (ascends-filter channel_before (λ o. not (is_named c.args.name.now o)) c.self.inside.list.items c.self.invariant)
