use Rattle.std.proofs.Common.{sym, subst, List, refl, arith}
use Rattle.fence_index.specs.declared.key_boxes.KeyBoxes.{KeyBoxes}
use Rattle.fence_index.specs.Boxed.{HasRoomIn}
use Rattle.fence_index.proofs.Prepared.{still_prepared}
use Rattle.fence_index.proofs.indexes.FenceIndex.clear.Goals as goal

pub invariant_of-self : goal.invariant_of-self
invariant_of-self c = record {
  by_key = rw c.clear.ensures.items refl;
  ready = still_prepared c.self.inside.boxes.items c.clear.new.self.items _ _ c.self.inside.prepared
      (omega (arith, c.clear.ensures.capacity)) (λ m room. subst (λ (l : List KeyBoxes). HasRoomIn m l) (sym c.clear.ensures.items) tt) c.self.invariant.ready;
}
