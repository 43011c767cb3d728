use Rattle.std.proofs.Common.{◌≤◌, ◌∙◌, ap, length, arith}
use Rattle.std.specs.Prelude.{filter, map, nat_lt}
use Rattle.ordered_lists.specs.Lists.{sorted_by}
use Rattle.ordered_lists.specs.Slots.{as_many}
use Rattle.slab.specs.Slab.{get}
use Rattle.channel_hub.specs.DueOrder.{has_come_in}
use Rattle.channel_hub.specs.DuePlaces.{place_among}
use Rattle.channel_hub.specs.Hubs.{channels_in}
use Rattle.channel_hub.proofs.DueSlots.{fewer_dues}
use Rattle.channel_hub.proofs.Places.{places_due}
use Rattle.channel_hub.proofs.indexed_channels.IndexedChannels.list_due.Goals as goal

pub due_count-count-requires : goal.due_count-count-requires
due_count-count-requires c = (c.self.inside.order.items, c.self.invariant.expire)

pub list_places-requires-clause-room : goal.list_places-requires-clause-room
list_places-requires-clause-room c =
    let f = get c.self.inside.slots in
    let order = c.self.inside.order.items in
    let few = fewer_dues f order in
    let same = ap length c.self.invariant.expire in
    let long = as_many f order (channels_in f order) c.self.invariant.ordered.stored in
    let room : length (channels_in f order) ≤ c.args.places.now.spare = rw (← c.self.view_is) at c.requires.room in
    omega (arith, few, same, long, room, c.due_count-count.ensures.within)

pub returns-clause-places : goal.returns-clause-places
returns-clause-places c =
    let f = get c.self.inside.slots in
    let order = c.self.inside.order.items in
    let xs = channels_in f order in
    let now = c.args.now in
    rw (← c.self.view_is) (c.list_places.ensures.places
    ∙ ap (λ l. sorted_by nat_lt (map (λ s. place_among xs (f s)) l)) (c.due_count-count.ensures.front ∙ ap (filter (λ s. has_come_in now (f s))) c.self.invariant.expire)
    ∙ places_due f order xs c.self.invariant.ordered.stored c.self.invariant.ordered.by_name now)
