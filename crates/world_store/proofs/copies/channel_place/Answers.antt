-- Halving comes to the first channel behind the name.
use Rattle.std.proofs.Common.{sym, arith}
use Rattle.world_data.specs.Worlds.{channel_before}
use Rattle.world_store.specs.Copies.{is_behind_name}
use Rattle.world_store.proofs.Walking.{row_up, row_down, row_found}
use Rattle.world_store.proofs.Rising.{channels_rise}
use Rattle.world_store.proofs.copies.channel_place.Goals as goal

pub loop-low-preserved-then-is_before : goal.loop-low-preserved-then-is_before
loop-low-preserved-then-is_before c = record {
  ordered = omega arith;
  within = omega arith;
  front = c.loop-low.invariant.front;
  back = row_down channel_before (is_behind_name c.args.name.now) (channels_rise c.args.name.now) c.args.hub.now.channels c.len-high.ensures.by_name _ c.at.result.now c.at.ensures (sym c.if-is_before.ensures);
}

pub loop-low-preserved : goal.loop-low-preserved
loop-low-preserved c = record {
  ordered = omega arith;
  within = c.loop-low.invariant.within;
  front = row_up channel_before (is_behind_name c.args.name.now) (channels_rise c.args.name.now) c.args.hub.now.channels c.len-high.ensures.by_name _ c.at.result.now c.at.ensures (sym c.if-is_before.ensures);
  back = c.loop-low.invariant.back;
}

pub returns : goal.returns
returns c =
    row_found (is_behind_name c.args.name.now) c.args.hub.now.channels c.loop-low.low c.loop-low.high (omega arith) c.loop-low.invariant.front c.loop-low.invariant.back
