use Rattle.std.proofs.Common.{sym, subst, arith}
use Rattle.fence_index.specs.declared.marks.Mark.{Mark}
use Rattle.fence_index.specs.Boxed.{IsFresh}
use Rattle.fence_index.proofs.Prepared.{still_prepared}
use Rattle.fence_index.proofs.indexes.FenceIndex.prepare.Goals as goal

pub invariant_of-self : goal.invariant_of-self
invariant_of-self c = record {
  by_key = c.reserve_boxes.ensures.by_key;
  ready = still_prepared c.self.inside.boxes.items c.reserve_boxes.new.boxes.items _ _ c.self.inside.prepared
      (omega (arith, c.reserve_boxes.ensures.len, c.reserve_boxes.ensures.capacity)) c.reserve_boxes.ensures.kept c.self.invariant.ready;
}

pub invariant_of-self-2 : goal.invariant_of-self-2
invariant_of-self-2 c =
    let made = c.in_ok-ready.ensures in
    record {
      by_key = c.reserve_boxes.ensures.by_key;
      ready = record {
        is_fresh = subst (λ (m : Mark). IsFresh m c.in_ok-ready.ready.boxes) (sym made.mark) made.boxes;
        spare_is = omega (arith, c.in_ok-reserve_boxes.ensures.places);
        room = rw made.mark c.in_ok-reserve_boxes.ensures.room;
      };
    }
