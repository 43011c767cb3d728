-- What is met by a way has a box that meets the way's box.
use Rattle.std.proofs.Common.{◌≡◌, ℕ, ◌+◌, ◌*◌, ◌≤◌, Bool, true, false, refl, sym, ap, ◌∙◌, arith, pos, ◌+ℤ◌, ◌-ℤ◌, ◌*ℤ◌, ◌≤ℤ◌, inl, inr, [], ◌∷◌}
use Rattle.std.proofs.Math.Nat.{mul-le-mul}
use Rattle.std.specs.Prelude.{◌&&◌, ◌||◌, nat_abs, int_le, int_lt}
use Rattle.std.specs.List.{list_any}
use Rattle.std.proofs.lemmas.Bool.Decides.{leb_tells}
use Rattle.std.proofs.lemmas.Bool.{leb-true}
use borrow.Author.Tests.{ltb-true}
use Rattle.std.proofs.lemmas.Int.{ints, clamps, by_lt_z}
use Rattle.planar_geom.specs.Points.{Point, Bounds, square, dist2, in_box, boxes_meet, box_of_disc, InPlane}
use Rattle.planar_geom.specs.Figures.{segment, box_of_segment, on_segment, dot, minus, orient}
use Rattle.planar_geom.specs.Shapes.{box_of}
use Rattle.planar_geom.specs.Relations.{in_disc, segment_near, comes_near, face_of, touch, intersects, way_meets, area_box, IsArea}
use Rattle.planar_geom.specs.declared.shapes.Part.TheVariants.{Chain}
use Rattle.planar_geom.specs.declared.shapes.Area.{Area}
use Rattle.planar_geom.specs.declared.shapes.Area.TheVariants.{Rect, Disc, Figure}
use Rattle.planar_geom.proofs.BoolLemmas.{and-left, and-right, or-elim}
use Rattle.planar_geom.proofs.BoxLaws.{Inside, inside, from_le, to_le}
use Rattle.planar_geom.proofs.DiscLaws.{Near, not-beyond, not-before, near-exchanged}
use Rattle.planar_geom.proofs.PointLemmas.{dot-self}
use Rattle.planar_geom.proofs.RelationLemmas.{box_of-face}
use Rattle.planar_geom.proofs.SideLemmas.{on_segment-is}

-- a box reaches as far as the box round a disc that is not cut
pub record Reaches (b : Bounds) (c : Point) (r : ℕ) : Type 0 where
  pub right : b.min.x ≤ℤ (c.x +ℤ pos r)
  pub left : (c.x -ℤ pos r) ≤ℤ b.max.x
  pub top : b.min.y ≤ℤ (c.y +ℤ pos r)
  pub bottom : (c.y -ℤ pos r) ≤ℤ b.max.y

-- a box that holds a point of the plane and reaches so far meets the disc's box
pub reaches-meets : (b : Bounds) (p c : Point) (r : ℕ) → Inside b p → InPlane p → Reaches b c r → boxes_meet b (box_of_disc c r) ≡ true
reaches-meets b p c r held p_in h =
    let d = box_of_disc c r in
    let x₁ : b.min.x ≤ℤ d.max.x = omega (arith, ints, clamps, h.right, held.left) in
    let x₂ : d.min.x ≤ℤ b.max.x = omega (arith, ints, clamps, h.left, held.right) in
    let y₁ : b.min.y ≤ℤ d.max.y = omega (arith, ints, clamps, h.top, held.bottom) in
    let y₂ : d.min.y ≤ℤ b.max.y = omega (arith, ints, clamps, h.bottom, held.top) in
    rw (to_le x₁, to_le x₂, to_le y₁, to_le y₂) refl

-- a number whose square is at most another's is at most that
pub root-le : (a r : ℕ) → a * a ≤ r * r → a ≤ r
root-le a r h = elim (leb_tells (r + 1) a) [ inl k ↦ absurd (omega (arith, h, mul-le-mul k.1 k.1)) | inr k ↦ omega (arith, k.1) ]

-- the way reaches the disc where a point of its box is at most r away from the centre
pub point-reaches : (b : Bounds) (p c : Point) (r : ℕ) → Inside b p → in_disc c r p ≡ true → Reaches b c r
point-reaches b p c r held near =
    let all : dist2 p c ≤ r * r = leb-true (dist2 p c) (r * r) near in
    let x_part : nat_abs (p.x -ℤ c.x) * nat_abs (p.x -ℤ c.x) ≤ r * r = first (nat_abs (p.x -ℤ c.x) * nat_abs (p.x -ℤ c.x)) (nat_abs (p.y -ℤ c.y) * nat_abs (p.y -ℤ c.y)) (r * r) all in
    let y_part : nat_abs (p.y -ℤ c.y) * nat_abs (p.y -ℤ c.y) ≤ r * r = second (nat_abs (p.x -ℤ c.x) * nat_abs (p.x -ℤ c.x)) (nat_abs (p.y -ℤ c.y) * nat_abs (p.y -ℤ c.y)) (r * r) all in
    let x_near : nat_abs (p.x -ℤ c.x) ≤ r = root-le (nat_abs (p.x -ℤ c.x)) r x_part in
    let y_near : nat_abs (p.y -ℤ c.y) ≤ r = root-le (nat_abs (p.y -ℤ c.y)) r y_part in
    record { right = omega (arith, ints, held.left, x_near); left = omega (arith, ints, held.right, x_near); top = omega (arith, ints, held.bottom, y_near); bottom = omega (arith, ints, held.top, y_near) }
  where
    first : (a b c : ℕ) → a + b ≤ c → a ≤ c
    first a b c h = omega arith

    second : (a b c : ℕ) → a + b ≤ c → b ≤ c
    second a b c h = omega arith

-- and where its box holds the centre
pub centre-reaches : (b : Bounds) (c : Point) (r : ℕ) → Inside b c → Reaches b c r
centre-reaches b c r held = record { right = omega (arith, ints, held.left); left = omega (arith, ints, held.right); top = omega (arith, ints, held.bottom); bottom = omega (arith, ints, held.top) }

-- what a segment that comes near a centre tells
near-from : (e d : Point) (r : ℕ) → comes_near e r d ≡ true → Near e.x e.y d.x d.y (square d.x + square d.y) (nat_abs (dot e d)) r
near-from e d r near =
    let foot_low = and-left (int_lt (pos 0) (dot d d) && int_le (pos 0) (dot e d) && int_le (dot e d) (dot d d)) (int_le (pos (square (e.x *ℤ d.y -ℤ e.y *ℤ d.x))) (pos (r * r) *ℤ dot d d)) near in
    let low = and-right (int_lt (pos 0) (dot d d) && int_le (pos 0) (dot e d) && int_le (dot e d) (dot d d)) (int_le (pos (square (e.x *ℤ d.y -ℤ e.y *ℤ d.x))) (pos (r * r) *ℤ dot d d)) near in
    let long_and = and-left (int_lt (pos 0) (dot d d) && int_le (pos 0) (dot e d)) (int_le (dot e d) (dot d d)) foot_low in
    let part : dot e d ≤ℤ dot d d = from_le (and-right (int_lt (pos 0) (dot d d) && int_le (pos 0) (dot e d)) (int_le (dot e d) (dot d d)) foot_low) in
    let natural : pos 0 ≤ℤ dot e d = from_le (and-right (int_lt (pos 0) (dot d d)) (int_le (pos 0) (dot e d)) long_and) in
    let long : int_lt (pos 0) (dot d d) ≡ true = and-left (int_lt (pos 0) (dot d d)) (int_le (pos 0) (dot e d)) long_and in
    let self : dot d d ≡ pos (square d.x + square d.y) = dot-self d in
    let long' : int_lt (pos 0) (pos (square d.x + square d.y)) ≡ true = sym (ap (int_lt (pos 0)) self) ∙ long in
    let low' : int_le (pos (square (e.x *ℤ d.y -ℤ e.y *ℤ d.x))) (pos (r * r) *ℤ pos (square d.x + square d.y)) ≡ true = sym (ap (λ z. int_le (pos (square (e.x *ℤ d.y -ℤ e.y *ℤ d.x))) (pos (r * r) *ℤ z)) self) ∙ low in
    record {
      length = self;
      scalar = omega (arith, ints, natural);
      some = ltb-true 0 (square d.x + square d.y) long';
      part = omega (arith, ints, natural, part, self);
      low = leb-true (square (e.x *ℤ d.y -ℤ e.y *ℤ d.x)) (r * r * (square d.x + square d.y)) low';
    }

-- the way reaches the disc where it comes near the centre
pub segment-reaches : (p q c : Point) (r : ℕ) → segment_near c r (segment p q) ≡ true → Reaches (box_of_segment (segment p q)) c r
segment-reaches p q c r near =
    let e = minus c p in
    let d = minus q p in
    let D = square d.x + square d.y in
    let T = nat_abs (dot e d) in
    let n : Near e.x e.y d.x d.y D T r = near-from e d r near in
    let m : Near e.y e.x d.y d.x D T r = near-exchanged e.x e.y d.x d.y D T r n in
    record {
      right = by_lt_z (c.x +ℤ pos r) (box_of_segment (segment p q)).min.x (λ out. absurd (not-beyond e.x e.y d.x d.y D T r n (omega (arith, ints, clamps, out)) (omega (arith, ints, clamps, out)))) (λ h. h);
      left = by_lt_z (box_of_segment (segment p q)).max.x (c.x -ℤ pos r) (λ out. absurd (not-before e.x e.y d.x d.y D T r n (omega (arith, ints, clamps, out)) (omega (arith, ints, clamps, out)))) (λ h. h);
      top = by_lt_z (c.y +ℤ pos r) (box_of_segment (segment p q)).min.y (λ out. absurd (not-beyond e.y e.x d.y d.x D T r m (omega (arith, ints, clamps, out)) (omega (arith, ints, clamps, out)))) (λ h. h);
      bottom = by_lt_z (box_of_segment (segment p q)).max.y (c.y -ℤ pos r) (λ out. absurd (not-before e.y e.x d.y d.x D T r m (omega (arith, ints, clamps, out)) (omega (arith, ints, clamps, out)))) (λ h. h);
    }

-- the box of a way meets that of an area that the way meets
pub way_meets-boxes : (p q : Point) (area : Area) → InPlane p → IsArea area → way_meets p q area ≡ true → boxes_meet (box_of_segment (segment p q)) (area_box area) ≡ true
unfolding intersects
way_meets-boxes p q (Rect b) p_in whole met =
    let chain = Chain (p ∷ q ∷ []) in
    sym (ap (boxes_meet (box_of_segment (segment p q))) (box_of-face b whole))
    ∙ and-left (boxes_meet (box_of (chain ∷ [])) (box_of (face_of b ∷ []))) (list_any (λ a. list_any (touch a) (face_of b ∷ [])) (chain ∷ [])) met
way_meets-boxes p q (Figure other) p_in whole met =
    let chain = Chain (p ∷ q ∷ []) in
    and-left (boxes_meet (box_of (chain ∷ [])) (box_of other)) (list_any (λ a. list_any (touch a) other) (chain ∷ [])) met
way_meets-boxes p q (Disc c r) p_in whole met =
    let way = segment p q in
    let box = box_of_segment way in
    let at_p : Inside box p = record { left = omega (arith, ints, clamps); right = omega (arith, ints, clamps); bottom = omega (arith, ints, clamps); top = omega (arith, ints, clamps) } in
    let at_q : Inside box q = record { left = omega (arith, ints, clamps); right = omega (arith, ints, clamps); bottom = omega (arith, ints, clamps); top = omega (arith, ints, clamps) } in
    reaches-meets box p c r at_p p_in
    (or-elim ((on_segment c way || false || false) || (in_disc c r p || in_disc c r q || false)) (segment_near c r way || false) (shape_of_three (on_segment c way) (in_disc c r p) (in_disc c r q) (segment_near c r way) met)
    (λ some. or-elim (on_segment c way || false || false) (in_disc c r p || in_disc c r q || false) some
    (λ on. centre-reaches box c r (inside box c (and-left (in_box box c) (int_le (orient p q c *ℤ orient p q c) (pos 0)) (sym (on_segment-is c way) ∙ first_of_three (on_segment c way) on))))
    (λ ends. or-elim (in_disc c r p) (in_disc c r q) (two_of_three (in_disc c r p) (in_disc c r q) ends) (λ h. point-reaches box p c r at_p h) (λ h. point-reaches box q c r at_q h)))
    (λ near. segment-reaches p q c r (first_of_two (segment_near c r way) near)))
  where
    first_of_three : (a : Bool) → (a || false || false) ≡ true → a ≡ true
    first_of_three true h = refl
    first_of_three false h = h

    two_of_three : (a b : Bool) → (a || b || false) ≡ true → (a || b) ≡ true
    two_of_three true b h = refl
    two_of_three false true h = refl
    two_of_three false false h = h

    first_of_two : (a : Bool) → (a || false) ≡ true → a ≡ true
    first_of_two true h = refl
    first_of_two false h = h

    shape_of_three : (o a b n : Bool) → (((o || false) || false) || (a || (b || false)) || (n || false)) ≡ true → (((o || false || false) || (a || b || false)) || (n || false)) ≡ true
    shape_of_three true a b n h = refl
    shape_of_three false true b n h = refl
    shape_of_three false false true n h = refl
    shape_of_three false false false n h = h
