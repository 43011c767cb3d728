use Rattle.std.proofs.Common.{arith}
use Rattle.planar_geom.specs.Shapes.{positions}
use Rattle.record_writer.specs.ObjectSums.{next_sum}
use Rattle.object_plans.proofs.reads.positions_of.Goals as goal

pub loop-i-preserved : goal.loop-i-preserved
loop-i-preserved c =
    let sum = next_sum (λ o. positions o.shape) c.args.objects.now.objects c.loop-i.i c.at.result.now c.at.ensures in
    let more = c.in-Some.ensures.1 in
    omega (arith, sum, more, c.loop-i.invariant, c.positions.ensures)
