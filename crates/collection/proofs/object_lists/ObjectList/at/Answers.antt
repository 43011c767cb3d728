use Rattle.std.proofs.Common.{◌∙◌, ap, sym, get_or}
use Rattle.slab.specs.Slab.{get}
use Rattle.collection.proofs.Slots.{within_keys, stored_at, get_at, gone}
use Rattle.collection.proofs.object_lists.ObjectList.at.Goals as goal

pub at-requires : goal.at-requires
at-requires c =
    let within = rw (← c.self.view_is) at c.requires in
    within_keys (get c.self.inside.slots) c.self.inside.keys.items c.args.i c.self.invariant.slotted.stored within

pub unreachable-requires : goal.unreachable-requires
unreachable-requires c =
    let f = get c.self.inside.slots in
    let keys = c.self.inside.keys.items in
    let within = rw (← c.self.view_is) at c.requires in
    let lt = within_keys f keys c.args.i c.self.invariant.slotted.stored within in
    let none = rw c.in-None.is at c.get.ensures in
    gone (f (get_or keys c.args.i 0)) (ap f (sym c.at.ensures) ∙ sym none) (stored_at f keys c.args.i 0 lt c.self.invariant.slotted.stored)

pub returns : goal.returns
returns c =
    let f = get c.self.inside.slots in
    let keys = c.self.inside.keys.items in
    let within = rw (← c.self.view_is) at c.requires in
    let lt = within_keys f keys c.args.i c.self.invariant.slotted.stored within in
    let some = rw c.in-Some.is at c.get.ensures in
    rw (← c.self.view_is) (get_at f keys c.args.i 0 lt c.self.invariant.slotted.stored ∙ ap f (sym c.at.ensures) ∙ sym some)
