-- Fields that are all given a value, gone over in the order of their names.
use Rattle.std.specs.Prelude.{List, [], ◌∷◌, if◌then◌else◌}
use Rattle.byte_text.specs.Names.{Bytes, same}
use Rattle.world_data.specs.Filters.{Field}

-- the fields behind the first, where that is called so
abbrev pub behind : Bytes → List Field → List Field
behind name [] = []
behind name (f ∷ fs) = if same f.0 name then fs else f ∷ fs

-- the fields that are left when those that are given are passed in turn
abbrev pub left_by : List Field → List Field → List Field
left_by [] fs = fs
left_by (g ∷ given) fs = left_by given (behind g.0 fs)
