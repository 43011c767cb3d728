use Rattle.std.proofs.Common.{◌≡◌, ◌∙◌, sym}
use Rattle.std.specs.Prelude.{Some, None}
use Rattle.slab.specs.Slab.{get}
use Rattle.channel_hub.specs.Hubs.{channels_in}
use Rattle.channel_hub.specs.Named.{slot_of}
use Rattle.channel_hub.proofs.Naming.{found_by_name, is_there, lacking_by_name}
use Rattle.channel_hub.proofs.indexed_channels.IndexedChannels.get.Goals as goal

pub index-requires : goal.index-requires
index-requires c =
    let f = get c.self.inside.slots in
    let order = c.self.inside.order.items in
    let name = c.args.name.now in
    let is : slot_of f order name ≡ Some c.in-Some.slot = sym (c.self.invariant.named name) ∙ sym c.get.ensures ∙ c.in-Some.is in
    is_there f order name c.in-Some.slot is

pub returns-in-Some-clause-some : goal.returns-in-Some-clause-some
returns-in-Some-clause-some c =
    let f = get c.self.inside.slots in
    let order = c.self.inside.order.items in
    let name = c.args.name.now in
    let is : slot_of f order name ≡ Some c.in-Some.slot = sym (c.self.invariant.named name) ∙ sym c.get.ensures ∙ c.in-Some.is in
    rw (← c.self.view_is) (found_by_name f order (channels_in f order) c.self.invariant.ordered.stored name c.in-Some.slot is ∙ c.index.ensures)

pub returns-in-None-clause-none : goal.returns-in-None-clause-none
returns-in-None-clause-none c =
    let f = get c.self.inside.slots in
    let order = c.self.inside.order.items in
    let name = c.args.name.now in
    let none : slot_of f order name ≡ None = sym (c.self.invariant.named name) ∙ sym c.get.ensures ∙ c.in-None.is in
    rw (← c.self.view_is) (lacking_by_name f order (channels_in f order) c.self.invariant.ordered.stored name none)
