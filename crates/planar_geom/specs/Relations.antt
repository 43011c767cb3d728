-- `within` and `intersects` between a shape and an area, by parts, vertices and segments.
use Rattle.std.specs.Prelude.{IsTrue, ℕ, pos, ◌*◌, Bool, true, false, not, ◌&&◌, ◌||◌, ◌-ℤ◌, ◌*ℤ◌, int_lt, int_le, nat_le, List, [], ◌∷◌, map}
use Rattle.std.specs.List.{list_any, list_all}
use Rattle.planar_geom.specs.Points.{Point, Bounds, corners_of, box_of_disc, InPlane, IsBox, same_point, dist2, in_box, boxes_meet, square}
use Rattle.planar_geom.specs.Figures.{Segment, chain_segments, edges, ring_points, meets, crosses, on_segment, in_poly, strictly_in, doubled}
use Rattle.planar_geom.specs.Figures.{doubled_middle, dot, minus}
pub use Rattle.planar_geom.specs.Shapes.{vertices, segments, all_vertices, all_segments, positions, box_of_points, box_of, has_allowed_size, is_shape}
use Rattle.planar_geom.specs.declared.shapes.Part.{Part}
use Rattle.planar_geom.specs.declared.shapes.Part.TheVariants.{Spot, Chain, Face}
use Rattle.planar_geom.specs.declared.shapes.Area.{Area}
use Rattle.planar_geom.specs.declared.shapes.Area.TheVariants.{Rect, Disc, Figure}

-- a point is in a part
abbrev pub in_part : Part → Point → Bool
in_part (Spot q) p = same_point q p
in_part (Chain line) p = list_any (on_segment p) (chain_segments line)
in_part (Face rings) p = in_poly rings p

-- the least box round an area
abbrev pub area_box : Area → Bounds
area_box (Rect b) = b
area_box (Disc c r) = box_of_disc c r
area_box (Figure shape) = box_of shape

-- what each area is: its box is one, its centre stands on the plane, its figure is a shape
abbrev pub IsArea : Area → Type 0
IsArea (Rect b) = IsBox b
IsArea (Disc c r) = InPlane c
IsArea (Figure shape) = IsTrue (is_shape shape)

-- a box as a figure: the face of its four corners
abbrev pub face_of : Bounds → Part
face_of b = Face (corners_of b ∷ [])

-- two parts touch: two segments meet, or a vertex of one is in the other
abbrev pub touch : Part → Part → Bool
touch a b = list_any (λ s. list_any (meets s) (segments b)) (segments a) || list_any (in_part b) (vertices a) || list_any (in_part a) (vertices b)

-- the boxes meet, and a part of one touches a part of the other
abbrev pub figures_touch : List Part → List Part → Bool
figures_touch a b = boxes_meet (box_of a) (box_of b) && list_any (λ p. list_any (touch p) b) a

-- p is at most r away from c
abbrev pub in_disc : Point → ℕ → Point → Bool
in_disc c r p = nat_le (dist2 p c) (r * r)

-- with d along the segment and e from its start to the centre: the foot of the centre is on it, and near
abbrev pub comes_near : Point → ℕ → Point → Bool
comes_near e r d = int_lt (pos 0) (dot d d) && int_le (pos 0) (dot e d) && int_le (dot e d) (dot d d)
    && int_le (pos (square (e.x *ℤ d.y -ℤ e.y *ℤ d.x))) (pos (r * r) *ℤ dot d d)

-- the segment comes within r of c, at the foot of c on it
abbrev pub segment_near : Point → ℕ → Segment → Bool
segment_near c r s = comes_near (minus c s.a) r (minus s.b s.a)

-- a part and a disc have a point in common: the centre is in the part, or a vertex is in the disc, or a
-- segment comes near the centre
abbrev pub reaches_disc : Part → Point → ℕ → Bool
reaches_disc part c r = in_part part c || list_any (in_disc c r) (vertices part) || list_any (segment_near c r) (segments part)

-- the shape and the area have a point in common
unfoldable pub intersects : List Part → Area → Bool
intersects shape (Rect b) = figures_touch shape (face_of b ∷ [])
intersects shape (Figure other) = figures_touch shape other
intersects shape (Disc c r) = list_any (λ p. in_part p c) shape || list_any (in_disc c r) (all_vertices shape)
    || list_any (segment_near c r) (all_segments shape)

-- where the part is a face, none of the rings' points is strictly inside it
abbrev pub no_hole_inside : List (List Point) → Part → Bool
no_hole_inside rings (Spot p) = true
no_hole_inside rings (Chain line) = true
no_hole_inside rings (Face own) = list_all (λ v. not (strictly_in own v)) (ring_points rings)

-- a part lies in one face: its points and the middles of its segments are in it, no segment crosses
-- an edge, and it goes round no hole
abbrev pub lies_in : Part → List (List Point) → Bool
lies_in part rings = list_all (in_poly rings) (vertices part)
    && list_all (λ s. in_poly (map (map doubled) rings) (doubled_middle s)) (segments part)
    && list_all (λ s. list_all (λ t. not (crosses s t)) (edges rings)) (segments part)
    && no_hole_inside rings part

-- a part lies in another, which is a face
abbrev pub lies_in_part : Part → Part → Bool
lies_in_part part (Spot p) = false
lies_in_part part (Chain line) = false
lies_in_part part (Face rings) = lies_in part rings

-- the shape lies in the area: each part in one face, or each point in the box or the disc
unfoldable pub within : List Part → Area → Bool
within shape (Rect b) = list_all (in_box b) (all_vertices shape)
within shape (Disc c r) = list_all (in_disc c r) (all_vertices shape)
within shape (Figure other) = list_all (λ part. list_any (lies_in_part part) other) shape

-- the way from p to q meets the area
abbrev pub way_meets : Point → Point → Area → Bool
way_meets p q area = intersects (Chain (p ∷ q ∷ []) ∷ []) area
