use Rattle.std.proofs.Common.{◌≡◌, take}
use Rattle.world_data.specs.Filters.{with_values}
use Rattle.object_plans.proofs.fields.with_given.Given as goal

abbrev pub invariant-loop-i : goal.invariant-loop-i
invariant-loop-i l = l.fields ≡ with_values l.initial.fields (take l.i l.given)
