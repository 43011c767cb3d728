use Rattle.std.proofs.Common.{◌≤◌, ◌∙◌, ℕ, subst, sym}
use Rattle.slab.specs.Slab.{get}
use Rattle.collection.proofs.Slots.{length_at}
use Rattle.collection.proofs.object_lists.ObjectList.len.Goals as goal

pub returns-clause-count : goal.returns-clause-count
returns-clause-count c =
    let len = length_at (get c.self.inside.slots) c.self.inside.keys.items c.self.invariant.slotted.stored in
    rw (← c.self.view_is) (c.len.ensures.count ∙ sym len)

pub returns-clause-most : goal.returns-clause-most
returns-clause-most c =
    let len = length_at (get c.self.inside.slots) c.self.inside.keys.items c.self.invariant.slotted.stored in
    rw (← c.self.view_is) (subst (λ (n : ℕ). n ≤ 4294967295) (sym len) c.len.ensures.most)
