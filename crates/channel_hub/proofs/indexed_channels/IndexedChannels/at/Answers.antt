use Rattle.slab.specs.Slab.{get}
use Rattle.channel_hub.specs.Hubs.{channels_in}
use Rattle.channel_hub.proofs.Order.{at_place, seat, within_order}
use Rattle.ordered_lists.specs.Slots.{has_at}
use Rattle.channel_hub.proofs.indexed_channels.IndexedChannels.at.Goals as goal

pub at-requires : goal.at-requires
at-requires c = within_order (get c.self.inside.slots) c.self.inside.order.items c.self.invariant.ordered c.args.i (rw (← c.self.view_is) at c.requires)

pub index-requires : goal.index-requires
index-requires c =
    let f = get c.self.inside.slots in
    let order = c.self.inside.order.items in
    let is = at_place order c.args.i 0 c.at.result (within_order f order c.self.invariant.ordered c.args.i (rw (← c.self.view_is) at c.requires)) c.at.ensures in
    has_at f order (channels_in f order) c.args.i c.at.result c.self.invariant.ordered.stored is

pub returns : goal.returns
returns c =
    let f = get c.self.inside.slots in
    let order = c.self.inside.order.items in
    let is = at_place order c.args.i 0 c.at.result (within_order f order c.self.invariant.ordered c.args.i (rw (← c.self.view_is) at c.requires)) c.at.ensures in
    rw (← c.self.view_is) (seat f order c.self.invariant.ordered c.args.i c.at.result c.index.result.now is c.index.ensures)
