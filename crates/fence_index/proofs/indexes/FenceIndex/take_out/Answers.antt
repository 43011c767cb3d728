use Rattle.std.proofs.Common.{arith}
use Rattle.fence_index.proofs.Prepared.{still_prepared}
use Rattle.fence_index.proofs.indexes.FenceIndex.take_out.Goals as goal

pub take_boxes-requires-clause-there : goal.take_boxes-requires-clause-there
take_boxes-requires-clause-there c = rw (← c.self.view_is) at c.requires

pub invariant_of-self : goal.invariant_of-self
invariant_of-self c = record {
  by_key = c.take_boxes.ensures.by_key;
  ready = still_prepared c.self.inside.boxes.items c.take_boxes.new.boxes.items _ _ c.self.inside.prepared
      (omega (arith, c.take_boxes.ensures.len, c.take_boxes.ensures.capacity)) c.take_boxes.ensures.kept c.self.invariant.ready;
}

pub returns-clause-boxes : goal.returns-clause-boxes
returns-clause-boxes c = rw (← c.self.view_is) c.take_boxes.ensures.weights
