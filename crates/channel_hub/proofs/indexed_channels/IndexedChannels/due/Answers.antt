use Rattle.std.proofs.Common.{◌∙◌, ap}
use Rattle.std.specs.Prelude.{filter}
use Rattle.slab.specs.Slab.{get}
use Rattle.channel_hub.specs.DueOrder.{has_come_in}
use Rattle.channel_hub.specs.Hubs.{channels_in}
use Rattle.channel_hub.proofs.DueSlots.{dues_come}
use Rattle.channel_hub.proofs.indexed_channels.IndexedChannels.due.Goals as goal

pub due_count-count-requires : goal.due_count-count-requires
due_count-count-requires c = (c.self.inside.order.items, c.self.invariant.expire)

pub returns : goal.returns
returns c =
    let f = get c.self.inside.slots in
    let order = c.self.inside.order.items in
    let now = c.args.now in
    rw (← c.self.view_is) (c.in_ok-due.ensures ∙ ap (channels_in f) (c.due_count-count.ensures.front ∙ ap (filter (λ s. has_come_in now (f s))) c.self.invariant.expire)
    ∙ dues_come f order (channels_in f order) c.self.invariant.ordered.stored now)
