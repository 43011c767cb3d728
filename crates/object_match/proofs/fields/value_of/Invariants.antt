use Rattle.std.proofs.Common.{◌≡◌, drop}
use Rattle.world_data.specs.Filters.{value_of}
use Rattle.object_match.proofs.fields.value_of.Given as goal

-- the fields that are left decide
abbrev pub invariant-loop-i : goal.invariant-loop-i
invariant-loop-i l = value_of (drop l.i l.fields) l.name ≡ value_of l.fields l.name
