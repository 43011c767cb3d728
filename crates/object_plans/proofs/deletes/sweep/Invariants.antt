use Rattle.std.proofs.Common.{take}
use Rattle.object_plans.specs.Sweeps.{IsSweptOf}
use Rattle.object_plans.proofs.deletes.sweep.Given as goal

abbrev pub invariant-loop-i : goal.invariant-loop-i
invariant-loop-i l = IsSweptOf l.pattern (take l.i l.objects.objects) l.fn.total l.swept
