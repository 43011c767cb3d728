use Rattle.std.proofs.Common.{◌<◌, ◌∙◌, length, ap, sym, get_or, arith}
use Rattle.slab.specs.Slab.{get}
use Rattle.collection.proofs.Slots.{gone}
use Rattle.collection.proofs.FirstDues.{due_stored, place_of_first, no_first}
use Rattle.collection.proofs.object_lists.ObjectList.first_due.Goals as goal

pub returns-then-len-eq0 : goal.returns-then-len-eq0
returns-then-len-eq0 c =
    let f = get c.self.inside.slots in
    let none = sym c.len.ensures.count ∙ c.if-len-eq0.true in
    rw (← c.self.view_is) (no_first f c.self.inside.keys.items c.self.invariant.slotted.stored c.self.inside.dues.items c.self.invariant.expiring none)

pub unreachable-requires : goal.unreachable-requires
unreachable-requires c =
    let f = get c.self.inside.slots in
    let dues = c.self.inside.dues.items in
    let some : 0 < length dues = omega (arith, c.len.ensures.count, c.if-len-eq0.false) in
    let none = rw c.in-None.is at c.get.ensures in
    gone (f (get_or dues 0 0)) (ap f (sym c.at.ensures) ∙ sym none) (due_stored f c.self.inside.keys.items c.self.invariant.slotted.stored dues c.self.invariant.expiring some)

pub returns : goal.returns
returns c =
    let f = get c.self.inside.slots in
    let dues = c.self.inside.dues.items in
    let some : 0 < length dues = omega (arith, c.len.ensures.count, c.if-len-eq0.false) in
    let here = rw c.in-Some.is at c.get.ensures in
    let asc = rw (← c.self.view_is) at c.requires in
    let front = rw (← c.self.view_is) at c.count_before.ensures.front in
    let behind = rw (← c.self.view_is) at c.count_before.ensures.behind in
    rw (← c.self.view_is) (place_of_first f c.self.inside.keys.items c.self.invariant.slotted.stored dues c.self.invariant.expiring some c.in-Some.object.now (ap f (sym c.at.ensures) ∙ sym here) c.count_before.result asc front behind)
