-- Halving comes to the first object behind the id.
use Rattle.std.proofs.Common.{sym, arith}
use Rattle.collection.specs.Objects.{id_before}
use Rattle.world_store.specs.Copies.{has_id_behind}
use Rattle.world_store.proofs.Walking.{row_up, row_down, row_found}
use Rattle.world_store.proofs.Rising.{ids_rise}
use Rattle.world_store.proofs.copies.object_place.Goals as goal

pub loop-low-preserved-then-is_before : goal.loop-low-preserved-then-is_before
loop-low-preserved-then-is_before c = record {
  ordered = omega arith;
  within = omega arith;
  front = c.loop-low.invariant.front;
  back = row_down id_before (has_id_behind c.args.id.now) (ids_rise c.args.id.now) c.args.objects.now.objects c.len-high.ensures.by_id _ c.at.result.now c.at.ensures (sym c.if-is_before.ensures);
}

pub loop-low-preserved : goal.loop-low-preserved
loop-low-preserved c = record {
  ordered = omega arith;
  within = c.loop-low.invariant.within;
  front = row_up id_before (has_id_behind c.args.id.now) (ids_rise c.args.id.now) c.args.objects.now.objects c.len-high.ensures.by_id _ c.at.result.now c.at.ensures (sym c.if-is_before.ensures);
  back = c.loop-low.invariant.back;
}

pub returns : goal.returns
returns c =
    row_found (has_id_behind c.args.id.now) c.args.objects.now.objects c.loop-low.low c.loop-low.high (omega arith) c.loop-low.invariant.front c.loop-low.invariant.back
