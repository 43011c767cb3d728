use Rattle.std.proofs.Common.{arith}
use Rattle.ordered_lists.specs.Slots.{as_many}
use Rattle.slab.specs.Slab.{get}
use Rattle.channel_hub.specs.Hubs.{channels_in}
use Rattle.channel_hub.proofs.Halving.{behind_channels, front_channels, name_cut, place_free, place_held}
use Rattle.channel_hub.proofs.channel_slots.place_of.Goals as goal

pub place_of-requires : goal.place_of-requires
place_of-requires c =
    let f = get c.args.slots.now in
    let order = c.args.order.now.items in
    name_cut f c.args.name.now order (channels_in f order) c.requires.stored c.requires.by_name

pub returns-clause-held : goal.returns-clause-held
returns-clause-held c =
    let f = get c.args.slots.now in
    let name = c.args.name.now in
    let order = c.args.order.now.items in
    let xs = channels_in f order in
    let at = c.place_of.result in
    let long = as_many f order xs c.requires.stored in
    place_held name xs c.requires.by_name at (omega (arith, c.place_of.ensures.within, long)) (front_channels f name order xs at c.requires.stored c.place_of.ensures.front)
    (behind_channels f name order xs at c.requires.stored c.place_of.ensures.behind)

pub returns-clause-free : goal.returns-clause-free
returns-clause-free c =
    let f = get c.args.slots.now in
    let name = c.args.name.now in
    let order = c.args.order.now.items in
    let xs = channels_in f order in
    let at = c.place_of.result in
    let long = as_many f order xs c.requires.stored in
    place_free name xs c.requires.by_name at (omega (arith, c.place_of.ensures.within, long)) (front_channels f name order xs at c.requires.stored c.place_of.ensures.front)
    (behind_channels f name order xs at c.requires.stored c.place_of.ensures.behind)
