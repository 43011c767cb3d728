use Rattle.std.proofs.Common.{◌≡◌, true, subst}
use Rattle.world_data.specs.Worlds.{are_channels, channel_before}
use Rattle.ordered_lists.specs.Ascending.{ascends-left}
use Rattle.world_data.proofs.channels.Channels.pop.Goals as goal

pub invariant_of-self : goal.invariant_of-self
invariant_of-self c = ascends-left channel_before c.pop.new.self.items _ (subst (λ os. are_channels os ≡ true) c.pop.ensures.items c.self.invariant)
