-- Signs, segments, rings and polygons: the figures of the plane.
use Rattle.std.specs.Prelude.{ℤ, pos, Bool, false, not, ◌&&◌, ◌||◌, ◌==◌, ◌%◌, ◌+ℤ◌, ◌-ℤ◌, ◌*ℤ◌, int_lt, int_le, nat_lt, if◌then◌else◌, List, [], ◌∷◌}
use Rattle.std.specs.Prelude.{length, flat_map, count_by, Result, Ok, Err}
use Rattle.std.specs.List.{list_any, list_all}
use Rattle.std.specs.Int.{int_signum}
use Rattle.planar_geom.specs.Points.{Point, Bounds, pt, same_point, box_round, boxes_meet}

-- a segment, from a to b
pub record Segment : Type 0 where
  pub a : Point
  pub b : Point

-- the segment from p to q
abbrev pub segment : Point → Point → Segment
segment p q = record { a = p; b = q }

-- twice the area of the triangle a, b, c, positive where they go round against the clock
abbrev pub cross : Point → Point → Point → ℤ
cross a b c = (b.x -ℤ a.x) *ℤ (c.y -ℤ a.y) -ℤ (b.y -ℤ a.y) *ℤ (c.x -ℤ a.x)

-- the side of the line from a to b on which c stands
abbrev pub orient : Point → Point → Point → ℤ
orient a b c = int_signum (cross a b c)

-- the sides of s on which the ends of t stand, multiplied
abbrev pub sides : Segment → Segment → ℤ
sides s t = orient s.a s.b t.a *ℤ orient s.a s.b t.b

-- the least box round a segment
abbrev pub box_of_segment : Segment → Bounds
box_of_segment s = box_round s.a (s.b ∷ [])

-- their boxes meet, and neither has both ends strictly on one side of the other
abbrev pub meets : Segment → Segment → Bool
meets s t = boxes_meet (box_of_segment s) (box_of_segment t) && int_le (sides s t) (pos 0) && int_le (sides t s) (pos 0)

-- each has its ends strictly on both sides of the other
abbrev pub crosses : Segment → Segment → Bool
crosses s t = int_lt (sides s t) (pos 0) && int_lt (sides t s) (pos 0)

-- p is on the segment: the segment from p to p meets it
abbrev pub on_segment : Point → Segment → Bool
on_segment p s = meets (segment p p) s

-- the scalar product of two vectors
abbrev pub dot : Point → Point → ℤ
dot d e = d.x *ℤ e.x +ℤ d.y *ℤ e.y

-- the vector from q to p
abbrev pub minus : Point → Point → Point
minus p q = pt (p.x -ℤ q.x) (p.y -ℤ q.y)

-- a point in doubled coordinates
abbrev pub doubled : Point → Point
doubled p = pt (pos 2 *ℤ p.x) (pos 2 *ℤ p.y)

-- the middle of a segment, in doubled coordinates
abbrev pub doubled_middle : Segment → Point
doubled_middle s = pt (s.a.x +ℤ s.b.x) (s.a.y +ℤ s.b.y)

-- the segments of a chain, from each point to the next
abbrev pub segments_from : Point → List Point → List Segment
segments_from p [] = []
segments_from p (q ∷ qs) = segment p q ∷ segments_from q qs

-- the segments of a chain of points
abbrev pub chain_segments : List Point → List Segment
chain_segments [] = []
chain_segments (p ∷ ps) = segments_from p ps

-- the points of all rings, each ring's last beside its first
abbrev pub ring_points : List (List Point) → List Point
ring_points rings = flat_map (λ ring. ring) rings

-- the segments of all rings of a polygon
abbrev pub edges : List (List Point) → List Segment
edges rings = flat_map chain_segments rings

-- the end a stands above p
abbrev pub above : Point → Point → Bool
above p a = int_lt p.y a.y

-- exactly one of them
abbrev pub differ : Bool → Bool → Bool
differ a b = if a then not b else b

-- the segment passes p's height strictly to the right of p, half-open in y
abbrev pub passes_right : Point → Segment → Bool
passes_right p s = differ (above p s.a) (above p s.b) && (if above p s.b then int_lt (pos 0) (cross s.a s.b p) else int_lt (cross s.a s.b p) (pos 0))

-- an odd number of edges pass to the right
abbrev pub is_odd : List (List Point) → Point → Bool
is_odd rings p = count_by (passes_right p) (edges rings) % 2 == 1

-- p is on a segment of one of the rings
abbrev pub on_edge : List (List Point) → Point → Bool
on_edge rings p = list_any (on_segment p) (edges rings)

-- on an edge, or inside by parity
abbrev pub in_poly : List (List Point) → Point → Bool
in_poly rings p = on_edge rings p || is_odd rings p

-- inside by parity, and on no edge
abbrev pub strictly_in : List (List Point) → Point → Bool
strictly_in rings p = is_odd rings p && not (on_edge rings p)

-- a line has at least two points
abbrev pub is_line : List Point → Bool
is_line points = nat_lt 1 (length points)

-- the last of points, the first of them given apart
abbrev pub last_of : Point → List Point → Point
last_of p [] = p
last_of p (q ∷ qs) = last_of q qs

-- the first of the points is the last of them too
abbrev pub is_closed : List Point → Bool
is_closed [] = false
is_closed (p ∷ ps) = same_point p (last_of p ps)

-- a linear ring (RFC 7946, section 3.1.6): at least four points, the first equal to the last
abbrev pub is_ring : List Point → Bool
is_ring [] = false
is_ring (p ∷ ps) = nat_lt 2 (length ps) && same_point p (last_of p ps)

-- a polygon has at least one ring
abbrev pub is_poly : List (List Point) → Bool
is_poly rings = nat_lt 0 (length rings) && list_all is_ring rings

-- the points as a line, or handed back
abbrev pub line_of : List Point → Result (List Point) (List Point)
line_of points = if is_line points then Ok points else Err points

-- the rings as a polygon, or handed back
abbrev pub poly_of : List (List Point) → Result (List (List Point)) (List (List Point))
poly_of rings = if is_poly rings then Ok rings else Err rings
