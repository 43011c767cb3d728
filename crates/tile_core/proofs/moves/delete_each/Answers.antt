use Rattle.std.proofs.Common.{◌∙◌}
use Rattle.keyspace.specs.Entries.{objects_in}
use Rattle.tile_core.proofs.Moving.{one_out}
use Rattle.tile_core.proofs.moves.delete_each.Goals as goal

pub loop-i-preserved : goal.loop-i-preserved
loop-i-preserved c = one_out c.args.key.now c.args.ids.now c.loop-i.i c.at.result.now (objects_in c.loop-i.objects) (objects_in c.take_out.new.self) c.at.ensures c.take_out.ensures.objects ∙ c.loop-i.invariant
