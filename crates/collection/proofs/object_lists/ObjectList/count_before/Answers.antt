use Rattle.std.proofs.Common.{◌≤◌, ℕ, subst, sym}
use Rattle.slab.specs.Slab.{get}
use Rattle.collection.proofs.Slots.{length_at, cut_by_id, front_at, behind_at}
use Rattle.collection.proofs.object_lists.ObjectList.count_before.Goals as goal

pub place_of-requires : goal.place_of-requires
place_of-requires c =
    let asc = rw (← c.self.view_is) at c.requires in
    cut_by_id (get c.self.inside.slots) c.args.id.now c.self.inside.keys.items c.self.invariant.slotted.stored asc

pub returns-clause-within : goal.returns-clause-within
returns-clause-within c =
    let len = length_at (get c.self.inside.slots) c.self.inside.keys.items c.self.invariant.slotted.stored in
    rw (← c.self.view_is) (subst (λ (n : ℕ). c.place_of.result ≤ n) (sym len) c.place_of.ensures.within)

pub returns-clause-front : goal.returns-clause-front
returns-clause-front c = rw (← c.self.view_is) (front_at (get c.self.inside.slots) c.args.id.now c.self.inside.keys.items c.place_of.result c.self.invariant.slotted.stored c.place_of.ensures.front)

pub returns-clause-behind : goal.returns-clause-behind
returns-clause-behind c = rw (← c.self.view_is) (behind_at (get c.self.inside.slots) c.args.id.now c.self.inside.keys.items c.place_of.result c.self.invariant.slotted.stored c.place_of.ensures.behind)
