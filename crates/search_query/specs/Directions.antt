-- Which way a query goes over the objects of a key, and whether it has an area.
use Rattle.std.specs.Prelude.{Bool, true, false}
use Rattle.world_data.specs.declared.queries.Rule.{Rule}
use Rattle.world_data.specs.declared.queries.Rule.TheVariants.{Descending, InArea}

-- whether it begins with the greatest id
abbrev pub is_down : Rule → Bool
is_down Descending = true
is_down rule = false

abbrev pub has_area : Rule → Bool
has_area (InArea kind area) = true
has_area rule = false
