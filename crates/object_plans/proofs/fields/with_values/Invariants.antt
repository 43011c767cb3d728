use Rattle.std.proofs.Common.{◌≡◌, ◌++◌, take}
use Rattle.std.specs.Prelude.{map}
use Rattle.world_data.specs.Filters.{with_values, zero_value}
use Rattle.object_plans.proofs.fields.with_values.Given as goal

abbrev pub invariant-loop-i : goal.invariant-loop-i
invariant-loop-i l = l.fields ≡ with_values l.fn.fields (l.given ++ map (λ n. (n, zero_value)) (take l.i l.cleared))
