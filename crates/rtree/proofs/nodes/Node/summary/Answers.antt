use Rattle.std.proofs.Common.{arith, sym, subst, All}
use Rattle.std.proofs.lemmas.List.{take_all}
use Rattle.std.proofs.lemmas.List.Elements.{All-nil}
use Rattle.rtree.specs.Pairs.{IsInside}
use Rattle.rtree.specs.Slots.{IsSlot, all_entries}
use Rattle.rtree.proofs.Slots.{full_of, begins_all, covers_more}
use Rattle.rtree.proofs.nodes.Node.summary.Goals as goal

pub loop-slot-init : goal.loop-slot-init
loop-slot-init g c = All-nil _

pub loop-slot-preserved : goal.loop-slot-preserved
loop-slot-preserved g c =
    let items = c.deref-slot-items.result.now in
    let each = subst (All (IsSlot c.self.inside.height)) (sym c.deref-slot-items.ensures.value) c.self.invariant.each in
    rw (c.with_box-bounds.ensures) (covers_more c.self.inside.height items c.loop-slot.slot-index c.slot-item.result c.loop-slot.bounds each c.loop-slot-test.true c.slot-item.is c.loop-slot.invariant)

pub returns : goal.returns
returns g c =
    let h = c.self.inside.height in
    let items = c.self.inside.slots.items in
    let each = c.self.invariant.each in
    let some = rw (← c.self.view_is) at c.requires in
    let all = subst (λ xs. All (λ p. IsInside c.loop-slot.bounds p.bounds) (all_entries xs)) (take_all c.loop-slot.slot-index c.deref-slot-items.result.now c.loop-slot-test.false) c.loop-slot.invariant in
    rw (← c.self.view_is) (record {
      begins = begins_all h items c.index-first.result.now each some c.index-first.ensures;
      covers = subst (λ xs. All (λ p. IsInside c.loop-slot.bounds p.bounds) (all_entries xs)) c.deref-slot-items.ensures.value all;
      full = λ least most. full_of h items each least most;
      cost = omega arith;
    })
