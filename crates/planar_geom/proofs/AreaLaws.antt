-- What meets an area, or comes near a point, has a box that meets the box round it.
use Rattle.std.proofs.Common.{◌≡◌, ℕ, ◌+◌, ◌*◌, ◌≤◌, true, false, refl, sym, ap, ◌∙◌, arith, ℤ, pos, ◌+ℤ◌, ◌-ℤ◌, ◌≤ℤ◌, List, [], ◌∷◌}
use Rattle.std.specs.Prelude.{◌||◌, nat_abs, int_le}
use Rattle.std.specs.List.{list_any, list_all}
use Rattle.std.proofs.lemmas.List.Folds.{list_all-append}
use Rattle.std.proofs.lemmas.Int.{ints, clamps}
use Rattle.planar_geom.specs.Points.{Point, Bounds, square, dist2, box_dist2, outside_by, in_box, boxes_meet, ranges_meet, box_of_disc, box_round_both, centre, IsBox}
use Rattle.planar_geom.specs.Figures.{Segment, box_of_segment}
use Rattle.planar_geom.specs.Shapes.{vertices, segments, all_vertices, all_segments, box_of, is_part, is_shape, has_allowed_size}
use Rattle.planar_geom.specs.Relations.{in_part, in_disc, segment_near, face_of, touch, intersects, area_box, IsArea}
use Rattle.planar_geom.specs.declared.shapes.Part.{Part}
use Rattle.planar_geom.specs.declared.shapes.Area.{Area}
use Rattle.planar_geom.specs.declared.shapes.Area.TheVariants.{Rect, Disc, Figure}
use Rattle.planar_geom.proofs.BoolLemmas.{and-left, and-right, and-both, or-elim}
use Rattle.planar_geom.proofs.BoxLaws.{Inside, inside, in_box-from, from_le, to_le, box_of_points-all, centre-inside}
use Rattle.planar_geom.proofs.DistanceLaws.{box_dist2-le}
use Rattle.planar_geom.proofs.RelationLemmas.{box_of-face}
use Rattle.planar_geom.proofs.TouchLaws.{ends_in, part-ends, in_part-held}
use Rattle.planar_geom.proofs.WayLaws.{Reaches, reaches-meets, root-le, point-reaches, centre-reaches, segment-reaches}

-- ---- points, boxes and discs

-- a box that is near a point in x and in y reaches the disc round it
box-reaches : (b : Bounds) (c : Point) (r : ℕ) → IsBox b → box_dist2 c b ≤ r * r → Reaches b c r
box-reaches b c r is_box near =
    let x_out = outside_by b.min.x b.max.x c.x in
    let y_out = outside_by b.min.y b.max.y c.y in
    let x_near : nat_abs x_out ≤ r = root-le (nat_abs x_out) r (first (nat_abs x_out * nat_abs x_out) (nat_abs y_out * nat_abs y_out) (r * r) near) in
    let y_near : nat_abs y_out ≤ r = root-le (nat_abs y_out) r (second (nat_abs x_out * nat_abs x_out) (nat_abs y_out * nat_abs y_out) (r * r) near) in
    record { right = reach-low b.min.x b.max.x c.x r is_box.x_ordered x_near; left = reach-high b.min.x b.max.x c.x r is_box.x_ordered x_near; top = reach-low b.min.y b.max.y c.y r is_box.y_ordered y_near; bottom = reach-high b.min.y b.max.y c.y r is_box.y_ordered y_near }
  where
    first : (a b c : ℕ) → a + b ≤ c → a ≤ c
    first a b c h = omega arith

    second : (a b c : ℕ) → a + b ≤ c → b ≤ c
    second a b c h = omega arith

    reach-low : (low high a : ℤ) (r : ℕ) → low ≤ℤ high → nat_abs (outside_by low high a) ≤ r → low ≤ℤ (a +ℤ pos r)
    reach-low low high a r ordered near = grind (arith, ints)

    reach-high : (low high a : ℤ) (r : ℕ) → low ≤ℤ high → nat_abs (outside_by low high a) ≤ r → (a -ℤ pos r) ≤ℤ high
    reach-high low high a r ordered near = grind (arith, ints)

own-corner : (b : Bounds) → IsBox b → Inside b b.min
own-corner b is_box = record { left = omega (arith, ints); right = is_box.x_ordered; bottom = omega (arith, ints); top = is_box.y_ordered }

-- a box at most r away from a point meets the box round the disc
pub near-meets : (b : Bounds) (c : Point) (r : ℕ) → IsBox b → box_dist2 c b ≤ r * r → boxes_meet b (box_of_disc c r) ≡ true
near-meets b c r is_box near = reaches-meets b b.min c r (own-corner b is_box) is_box.min_in_plane (box-reaches b c r is_box near)

pub dist2-swap : (p q : Point) → dist2 p q ≡ dist2 q p
dist2-swap p q = sums (square (p.x -ℤ q.x)) (square (q.x -ℤ p.x)) (square (p.y -ℤ q.y)) (square (q.y -ℤ p.y)) (squares p.x q.x) (squares p.y q.y)
  where
    squares : (a b : ℤ) → square (a -ℤ b) ≡ square (b -ℤ a)
    squares a b = let e : nat_abs (a -ℤ b) ≡ nat_abs (b -ℤ a) = omega (arith, ints) in ap (λ n. n * n) e

    sums : (a b c d : ℕ) → a ≡ b → c ≡ d → a + c ≡ b + d
    sums a b c d p q = omega arith

-- a box whose centre is at most r away from a point meets the box round the disc
pub centre-meets : (b : Bounds) (c : Point) (r : ℕ) → IsBox b → dist2 c (centre b) ≤ r * r → boxes_meet b (box_of_disc c r) ≡ true
centre-meets b c r is_box near =
    near-meets b c r is_box (all (box_dist2 c b) (dist2 c (centre b)) (r * r) (box_dist2-le c b (centre b) (in_box-from b (centre b) (centre-inside b is_box))) near)
  where
    all : (a b c : ℕ) → a ≤ b → b ≤ c → a ≤ c
    all a b c h k = omega arith

-- ---- the box round two boxes

-- the four orders of boxes that meet
record Meeting (b c : Bounds) : Type 0 where
  right : b.min.x ≤ℤ c.max.x
  left : c.min.x ≤ℤ b.max.x
  top : b.min.y ≤ℤ c.max.y
  bottom : c.min.y ≤ℤ b.max.y

meeting : (b c : Bounds) → boxes_meet b c ≡ true → Meeting b c
meeting b c met =
    let x_met = and-left (ranges_meet b.min.x b.max.x c.min.x c.max.x) (ranges_meet b.min.y b.max.y c.min.y c.max.y) met in
    let y_met = and-right (ranges_meet b.min.x b.max.x c.min.x c.max.x) (ranges_meet b.min.y b.max.y c.min.y c.max.y) met in
    record {
      right = from_le (and-left (int_le b.min.x c.max.x) (int_le c.min.x b.max.x) x_met);
      left = from_le (and-right (int_le b.min.x c.max.x) (int_le c.min.x b.max.x) x_met);
      top = from_le (and-left (int_le b.min.y c.max.y) (int_le c.min.y b.max.y) y_met);
      bottom = from_le (and-right (int_le b.min.y c.max.y) (int_le c.min.y b.max.y) y_met);
    }

met-from : (b c : Bounds) → Meeting b c → boxes_meet b c ≡ true
met-from b c h = rw (to_le h.right, to_le h.left, to_le h.top, to_le h.bottom) refl

-- what one of two boxes meets, the box round both does
pub first-meets : (b c d : Bounds) → boxes_meet b d ≡ true → boxes_meet (box_round_both b c) d ≡ true
first-meets b c d met =
    let h = meeting b d met in
    met-from (box_round_both b c) d (record { right = omega (arith, ints, clamps, h.right); left = omega (arith, ints, clamps, h.left); top = omega (arith, ints, clamps, h.top); bottom = omega (arith, ints, clamps, h.bottom) })

pub second-meets : (b c d : Bounds) → IsBox c → boxes_meet c d ≡ true → boxes_meet (box_round_both b c) d ≡ true
second-meets b c d is_box met =
    let h = meeting c d met in
    met-from (box_round_both b c) d (record { right = omega (arith, ints, clamps, h.right); left = omega (arith, ints, clamps, h.left); top = omega (arith, ints, clamps, h.top); bottom = omega (arith, ints, clamps, h.bottom) })

-- what one of two boxes holds, the box round both does
pub first-holds : (b c : Bounds) (p : Point) → in_box b p ≡ true → in_box (box_round_both b c) p ≡ true
first-holds b c p held =
    let h = inside b p held in
    in_box-from (box_round_both b c) p (record { left = omega (arith, ints, clamps, h.left); right = omega (arith, ints, clamps, h.right); bottom = omega (arith, ints, clamps, h.bottom); top = omega (arith, ints, clamps, h.top) })

pub second-holds : (b c : Bounds) (p : Point) → in_box c p ≡ true → in_box (box_round_both b c) p ≡ true
second-holds b c p held =
    let h = inside c p held in
    in_box-from (box_round_both b c) p (record { left = omega (arith, ints, clamps, h.left); right = omega (arith, ints, clamps, h.right); bottom = omega (arith, ints, clamps, h.bottom); top = omega (arith, ints, clamps, h.top) })

-- ---- shapes and areas

-- a wider box reaches as far
reaches-wider : (b : Bounds) (s : Segment) (c : Point) (r : ℕ) → Inside b s.a → Inside b s.b → Reaches (box_of_segment s) c r → Reaches b c r
reaches-wider b s c r in_a in_b h =
    record {
      right = omega (arith, ints, clamps, h.right, in_a.left, in_b.left);
      left = omega (arith, ints, clamps, h.left, in_a.right, in_b.right);
      top = omega (arith, ints, clamps, h.top, in_a.bottom, in_b.bottom);
      bottom = omega (arith, ints, clamps, h.bottom, in_a.top, in_b.top);
    }

clash : false ≡ true → ⊥
clash h = cc

-- a box that holds points of which one is in a disc reaches it
some-vertex : (b : Bounds) (c : Point) (r : ℕ) (ps : List Point) → list_all (in_box b) ps ≡ true → list_any (in_disc c r) ps ≡ true → Reaches b c r
some-vertex b c r [] held some = absurd (clash some)
some-vertex b c r (p ∷ ps) held some =
    or-elim (in_disc c r p) (list_any (in_disc c r) ps) some
    (λ h. point-reaches b p c r (inside b p (and-left (in_box b p) (list_all (in_box b) ps) held)) h)
    (λ h. some-vertex b c r ps (and-right (in_box b p) (list_all (in_box b) ps) held) h)

-- and so does one that holds segments of which one comes near the centre
some-segment : (b : Bounds) (c : Point) (r : ℕ) (ss : List Segment) → list_all (ends_in b) ss ≡ true → list_any (segment_near c r) ss ≡ true → Reaches b c r
some-segment b c r [] held some = absurd (clash some)
some-segment b c r (s ∷ ss) held some =
    let ends = and-left (ends_in b s) (list_all (ends_in b) ss) held in
    or-elim (segment_near c r s) (list_any (segment_near c r) ss) some
    (λ h. reaches-wider b s c r (inside b s.a (and-left (in_box b s.a) (in_box b s.b) ends)) (inside b s.b (and-right (in_box b s.a) (in_box b s.b) ends)) (segment-reaches s.a s.b c r h))
    (λ h. some-segment b c r ss (and-right (ends_in b s) (list_all (ends_in b) ss) held) h)

-- a box that holds the points of parts holds the ends of their segments
all-ends : (b : Bounds) (parts : List Part) → list_all (in_box b) (all_vertices parts) ≡ true → list_all (ends_in b) (all_segments parts) ≡ true
all-ends b [] held = refl
all-ends b (part ∷ parts) held =
    let both = sym (list_all-append (in_box b) (vertices part) (all_vertices parts)) ∙ held in
    list_all-append (ends_in b) (segments part) (all_segments parts)
    ∙ and-both (list_all (ends_in b) (segments part)) (list_all (ends_in b) (all_segments parts)) (part-ends b part (and-left (list_all (in_box b) (vertices part)) (list_all (in_box b) (all_vertices parts)) both)) (all-ends b parts (and-right (list_all (in_box b) (vertices part)) (list_all (in_box b) (all_vertices parts)) both))

-- a box that holds the points of parts holds what is in one of them
some-part : (b : Bounds) (c : Point) (parts : List Part) → list_all is_part parts ≡ true → list_all (in_box b) (all_vertices parts) ≡ true → list_any (λ part. in_part part c) parts ≡ true → Inside b c
some-part b c [] whole held some = absurd (clash some)
some-part b c (part ∷ parts) whole held some =
    let both = sym (list_all-append (in_box b) (vertices part) (all_vertices parts)) ∙ held in
    or-elim (in_part part c) (list_any (λ p. in_part p c) parts) some
    (λ h. in_part-held part c b (and-left (is_part part) (list_all is_part parts) whole) (and-left (list_all (in_box b) (vertices part)) (list_all (in_box b) (all_vertices parts)) both) h)
    (λ h. some-part b c parts (and-right (is_part part) (list_all is_part parts) whole) (and-right (list_all (in_box b) (vertices part)) (list_all (in_box b) (all_vertices parts)) both) h)

-- a shape that meets an area has a box that meets the area's
pub met-boxes : (shape : List Part) (area : Area) → is_shape shape ≡ true → IsBox (box_of shape) → IsArea area → intersects shape area ≡ true → boxes_meet (box_of shape) (area_box area) ≡ true
unfolding intersects
met-boxes shape (Rect b) whole is_box area_whole met =
    sym (ap (boxes_meet (box_of shape)) (box_of-face b area_whole))
    ∙ and-left (boxes_meet (box_of shape) (box_of (face_of b ∷ []))) (list_any (λ p. list_any (touch p) (face_of b ∷ [])) shape) met
met-boxes shape (Figure other) whole is_box area_whole met = and-left (boxes_meet (box_of shape) (box_of other)) (list_any (λ p. list_any (touch p) other) shape) met
met-boxes shape (Disc c r) whole is_box area_whole met =
    let b = box_of shape in
    let parts_whole = and-right (has_allowed_size shape) (list_all is_part shape) whole in
    let held = box_of_points-all (all_vertices shape) in
    reaches-meets b b.min c r (own-corner b is_box) is_box.min_in_plane
    (or-elim (list_any (λ p. in_part p c) shape || list_any (in_disc c r) (all_vertices shape)) (list_any (segment_near c r) (all_segments shape)) met
    (λ first. or-elim (list_any (λ p. in_part p c) shape) (list_any (in_disc c r) (all_vertices shape)) first
    (λ h. centre-reaches b c r (some-part b c shape parts_whole held h))
    (λ h. some-vertex b c r (all_vertices shape) held h))
    (λ h. some-segment b c r (all_segments shape) (all-ends b shape held) h))
