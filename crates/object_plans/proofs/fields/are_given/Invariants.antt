use Rattle.std.proofs.Common.{◌≡◌, ◌≤◌, drop, length}
use Rattle.object_plans.specs.Covered.{left_by}
use Rattle.object_plans.proofs.fields.are_given.Given as goal

-- what is left of both comes to the same
abbrev pub invariant-loop-i : goal.invariant-loop-i
invariant-loop-i l = record {
  within : l.at ≤ length l.fields;
  left : left_by (drop l.i l.given) (drop l.at l.fields) ≡ left_by l.given l.fields;
}
