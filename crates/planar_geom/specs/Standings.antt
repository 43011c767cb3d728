-- How the edges of a polygon, met one after another, tell where a point stands.
use Rattle.std.specs.Prelude.{Bool, ◌==◌, ◌%◌, if◌then◌else◌, Option, Some, None, List, count_by}
use Rattle.std.specs.List.{list_any}
use Rattle.planar_geom.specs.Points.{Point}
use Rattle.planar_geom.specs.Figures.{Segment, doubled, differ, on_segment, passes_right}
use Rattle.planar_geom.specs.declared.polygons.Grid.{Grid}
use Rattle.planar_geom.specs.declared.polygons.Grid.TheVariants.{Whole, Doubled}

-- a point of the plane on the grid
abbrev pub on_grid : Grid → Point → Point
on_grid Whole p = p
on_grid Doubled p = doubled p

-- the parity of the edges that pass to the right of p once s is one more of them; nothing where p is on an edge
abbrev pub with_edge : Point → Option Bool → Segment → Option Bool
with_edge p None s = None
with_edge p (Some odd) s = if on_segment p s then None else Some (differ odd (passes_right p s))

-- the parity of the edges that pass to the right of p; nothing where p is on one of them
abbrev pub parity : List Segment → Point → Option Bool
parity edges p = if list_any (on_segment p) edges then None else Some (count_by (passes_right p) edges % 2 == 1)
