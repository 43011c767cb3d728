use Rattle.std.proofs.Common.{◌∙◌}
use Rattle.tile_core.proofs.Finishing.{name_out}
use Rattle.tile_core.proofs.finish.drop_channels.Goals as goal

pub loop-i-preserved : goal.loop-i-preserved
loop-i-preserved c = name_out c.args.names.now c.loop-i.i c.at.result.now c.loop-i.hub.channels c.take_out.new.self.channels c.at.ensures c.take_out.ensures.channels ∙ c.loop-i.invariant
