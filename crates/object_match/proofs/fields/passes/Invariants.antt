use Rattle.std.proofs.Common.{◌≡◌, drop}
use Rattle.world_data.specs.Filters.{passes}
use Rattle.object_match.proofs.fields.passes.Given as goal

-- the tests that are left decide
abbrev pub invariant-loop-i : goal.invariant-loop-i
invariant-loop-i l = passes (drop l.i l.tests) l.fields ≡ passes l.tests l.fields
