use Rattle.std.proofs.Common.{◌≡◌, take}
use Rattle.std.specs.Prelude.{sum_by}
use Rattle.planar_geom.specs.Shapes.{positions}
use Rattle.object_plans.proofs.reads.positions_of.Given as goal

abbrev pub invariant-loop-i : goal.invariant-loop-i
invariant-loop-i l = l.count ≡ sum_by (λ o. positions o.shape) (take l.i l.objects.objects)
