use Rattle.std.proofs.Common.{◌≡◌, drop}
use Rattle.std.specs.List.{list_any}
use Rattle.world_data.specs.Filters.{same_value}
use Rattle.object_match.proofs.fields.is_among.Given as goal

-- the values that are left decide
abbrev pub invariant-loop-i : goal.invariant-loop-i
invariant-loop-i l = list_any (same_value l.value) (drop l.i l.values) ≡ list_any (same_value l.value) l.values
