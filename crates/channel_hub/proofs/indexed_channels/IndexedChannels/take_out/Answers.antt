use Rattle.std.proofs.Common.{◌≡◌, ◌∙◌, sym}
use Rattle.std.specs.Prelude.{Some, None, IsSome, find}
use Rattle.world_data.specs.Worlds.{is_named}
use Rattle.slab.specs.Slab.{get}
use Rattle.channel_hub.specs.Hubs.{channels_in}
use Rattle.channel_hub.specs.Named.{slot_of}
use Rattle.channel_hub.proofs.ChannelsByName.{found, left}
use Rattle.channel_hub.proofs.Naming.{all_left, found_by_name, is_there, lacking_by_name}
use Rattle.channel_hub.proofs.indexed_channels.IndexedChannels.take_out.Goals as goal

pub remove-requires : goal.remove-requires
remove-requires c =
    let f = get c.self.inside.slots in
    let order = c.self.inside.order.items in
    let xs = channels_in f order in
    let kept = c.self.invariant in
    let name = c.args.name.now in
    let is : slot_of f order name ≡ Some c.in-Some.field-0 = sym (kept.named name) ∙ sym c.get.ensures ∙ c.in-Some.is in
    let some : IsSome (find (is_named name) xs) = rw (found_by_name f order xs kept.ordered.stored name c.in-Some.field-0 is) (is_there f order name c.in-Some.field-0 is) in
    let held = c.place_of-at.ensures.held some in
    rw (← c.self.view_is) held.within

pub returns-in-Some-clause-channels : goal.returns-in-Some-clause-channels
returns-in-Some-clause-channels c =
    let f = get c.self.inside.slots in
    let order = c.self.inside.order.items in
    let xs = channels_in f order in
    let kept = c.self.invariant in
    let name = c.args.name.now in
    let is : slot_of f order name ≡ Some c.in-Some.field-0 = sym (kept.named name) ∙ sym c.get.ensures ∙ c.in-Some.is in
    let some : IsSome (find (is_named name) xs) = rw (found_by_name f order xs kept.ordered.stored name c.in-Some.field-0 is) (is_there f order name c.in-Some.field-0 is) in
    let held = c.place_of-at.ensures.held some in
    rw (← c.self.view_is) ((rw (← c.self.view_is) at c.remove.ensures.channels) ∙ sym (left name xs c.place_of-at.result kept.ordered.by_name held))

pub returns-in-Some-clause-taken : goal.returns-in-Some-clause-taken
returns-in-Some-clause-taken c =
    let f = get c.self.inside.slots in
    let order = c.self.inside.order.items in
    let xs = channels_in f order in
    let kept = c.self.invariant in
    let name = c.args.name.now in
    let is : slot_of f order name ≡ Some c.in-Some.field-0 = sym (kept.named name) ∙ sym c.get.ensures ∙ c.in-Some.is in
    let some : IsSome (find (is_named name) xs) = rw (found_by_name f order xs kept.ordered.stored name c.in-Some.field-0 is) (is_there f order name c.in-Some.field-0 is) in
    let held = c.place_of-at.ensures.held some in
    rw (← c.self.view_is) (sym (found name xs c.place_of-at.result c.remove.result held (rw (← c.self.view_is) at c.remove.ensures.taken)))

pub returns-in-None-clause-channels : goal.returns-in-None-clause-channels
returns-in-None-clause-channels c =
    let f = get c.self.inside.slots in
    let order = c.self.inside.order.items in
    let xs = channels_in f order in
    let kept = c.self.invariant in
    let name = c.args.name.now in
    let none : slot_of f order name ≡ None = sym (kept.named name) ∙ sym c.get.ensures ∙ c.in-None.is in
    let lacks = lacking_by_name f order xs kept.ordered.stored name none in
    rw (← c.self.view_is) (sym (all_left name xs lacks))

pub returns-in-None-clause-taken : goal.returns-in-None-clause-taken
returns-in-None-clause-taken c =
    let f = get c.self.inside.slots in
    let order = c.self.inside.order.items in
    let xs = channels_in f order in
    let kept = c.self.invariant in
    let name = c.args.name.now in
    let none : slot_of f order name ≡ None = sym (kept.named name) ∙ sym c.get.ensures ∙ c.in-None.is in
    let lacks = lacking_by_name f order xs kept.ordered.stored name none in
    rw (← c.self.view_is) (sym lacks)
