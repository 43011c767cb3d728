-- Parts and shapes: their points, their segments and their boxes.
use Rattle.std.specs.Prelude.{ℕ, Bool, true, ◌&&◌, nat_lt, nat_le, Option, Some, None, if◌then◌else◌, List, [], ◌∷◌, flat_map, length, Result, Ok}
use Rattle.std.specs.Prelude.{Err}
use Rattle.std.specs.List.{list_all}
use Rattle.planar_geom.specs.Points.{Point, Bounds}
pub use Rattle.planar_geom.specs.Points.{box_of_points}
use Rattle.planar_geom.specs.Figures.{Segment, chain_segments, edges, ring_points, is_line, is_poly}
use Rattle.planar_geom.specs.declared.shapes.TheConstants.{MAX_POSITIONS}
use Rattle.planar_geom.specs.declared.shapes.Part.{Part}
use Rattle.planar_geom.specs.declared.shapes.Part.TheVariants.{Spot, Chain, Face}

-- a chain is a line and a face is a polygon
abbrev pub is_part : Part → Bool
is_part (Spot p) = true
is_part (Chain line) = is_line line
is_part (Face rings) = is_poly rings

-- the points of a part, a ring's last beside its first
abbrev pub vertices : Part → List Point
vertices (Spot p) = p ∷ []
vertices (Chain line) = line
vertices (Face rings) = ring_points rings

-- the segments of a part: a point has none
abbrev pub segments : Part → List Segment
segments (Spot p) = []
segments (Chain line) = chain_segments line
segments (Face rings) = edges rings

-- the points of all parts
abbrev pub all_vertices : List Part → List Point
all_vertices shape = flat_map vertices shape

-- the segments of all parts
abbrev pub all_segments : List Part → List Segment
all_segments shape = flat_map segments shape

-- the number of positions of a shape
abbrev pub positions : List Part → ℕ
positions shape = length (all_vertices shape)

-- there is a part, and there are at most MAX_POSITIONS positions
abbrev pub has_allowed_size : List Part → Bool
has_allowed_size parts = nat_lt 0 (length parts) && nat_le (positions parts) MAX_POSITIONS

-- a shape has at least one part, and at most MAX_POSITIONS positions
abbrev pub is_shape : List Part → Bool
is_shape parts = has_allowed_size parts && list_all is_part parts

-- the parts as a shape, or handed back where they are none or too large
abbrev pub shape_of_parts : List Part → Result (List Part) (List Part)
shape_of_parts parts = if has_allowed_size parts then Ok parts else Err parts

-- the count, where there is room for it
abbrev pub count_within : ℕ → ℕ → Option ℕ
count_within room count = if nat_le count room then Some count else None

-- the least box round a shape
abbrev pub box_of : List Part → Bounds
box_of shape = box_of_points (all_vertices shape)
