-- Sides of lines, and points on segments.
use Rattle.std.proofs.Common.{◌≡◌, zero, suc, ◌<◌, ◌^◌, Bool, true, false, refl, ap, ◌∙◌, arith, ℤ, pos, negsuc, ◌-ℤ◌, ◌*ℤ◌, of_z, nat_eq, cond}
use Rattle.std.specs.Prelude.{◌&&◌, int_le, int_lt}
use Rattle.std.specs.Int.{int_min, int_signum}
use Rattle.std.proofs.Common.{min}
use Rattle.std.proofs.lemmas.Bool.Decides.{nat_tests}
use Rattle.std.proofs.lemmas.Int.{ints}
use lib.Signed.{mag}
use mir.Syntax.{w128}
use Rattle.planar_geom.specs.Points.{Point, bounds, boxes_meet, in_box, Bounds}
use Rattle.planar_geom.specs.Figures.{Segment, segment, cross, orient, sides, box_of_segment, on_segment}
use Rattle.planar_geom.proofs.BoolLemmas.{and-swap, and-true}

cond-same : {A : Type 0} (b : Bool) (x : A) → cond b x x ≡ x
cond-same true x = refl
cond-same false x = refl

int_min-same : (a : ℤ) → int_min a a ≡ a
int_min-same a = cond-same (int_lt a a) a

-- the box round the segment from a point to itself
point_box : (p : Point) → box_of_segment (segment p p) ≡ bounds p p
point_box p = rw (int_min-same p.x, int_min-same p.y) refl

-- it meets a box where the point is in it
point_box-meets : (p : Point) (b : Bounds) → boxes_meet (bounds p p) b ≡ in_box b p
point_box-meets p b = rw (and-swap (int_le p.x b.max.x) (int_le b.min.x p.x), and-swap (int_le p.y b.max.y) (int_le b.min.y p.y)) refl

-- a line through one point alone has no sides
no_line : (p c : Point) → cross p p c ≡ pos 0
no_line p c =
    let x_none : p.x -ℤ p.x ≡ pos 0 = omega (arith, ints) in
    let y_none : p.y -ℤ p.y ≡ pos 0 = omega (arith, ints) in
    rw (x_none, y_none) (omega (arith, ints))

no_sides : (p : Point) (s : Segment) → sides (segment p p) s ≡ pos 0
no_sides p s = rw (no_line p s.a, no_line p s.b) refl

-- what the code's test for 0 tells
pub zero_test : (z : ℤ) → mag z < 2 ^ 127 → nat_eq (of_z w128 z) 0 ≡ int_le (int_signum z *ℤ int_signum z) (pos 0)
zero_test (pos zero) h = refl
zero_test (pos (suc n)) h = let one : min (suc n) 1 ≡ 1 = omega arith in rw one (grind (arith, nat_tests))
zero_test (negsuc n) h = grind (arith, nat_tests)

-- a point is on a segment where it is in its box and on its line
pub on_segment-is : (p : Point) (s : Segment) → on_segment p s ≡ (in_box (box_of_segment s) p && int_le (orient s.a s.b p *ℤ orient s.a s.b p) (pos 0))
on_segment-is p s =
    let other = segment p p in
    ap (λ b. boxes_meet b (box_of_segment s) && int_le (sides other s) (pos 0) && int_le (sides s other) (pos 0)) (point_box p)
    ∙ ap (λ m. m && int_le (sides other s) (pos 0) && int_le (sides s other) (pos 0)) (point_box-meets p (box_of_segment s))
    ∙ ap (λ z. in_box (box_of_segment s) p && int_le z (pos 0) && int_le (sides s other) (pos 0)) (no_sides p s)
    ∙ ap (λ m. m && int_le (sides s other) (pos 0)) (and-true (in_box (box_of_segment s) p))
