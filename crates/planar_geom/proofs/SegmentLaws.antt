-- The order of two segments and of their ends does not matter.
use Rattle.std.proofs.Common.{◌≡◌, zero, suc, refl, ap, ◌∙◌, arith, ℤ, pos, negsuc, ◌*ℤ◌, neg_ℤ}
use Rattle.std.specs.Prelude.{◌&&◌, int_le}
use Rattle.std.specs.Int.{int_signum}
use Rattle.std.proofs.lemmas.Int.{ints, clamps}
use Rattle.planar_geom.specs.Points.{Point, Bounds, boxes_meet, ranges_meet}
use Rattle.planar_geom.specs.Figures.{Segment, segment, cross, orient, sides, box_of_segment, meets}
use Rattle.planar_geom.proofs.BoolLemmas.{and-swap, and-third_second}
use Rattle.planar_geom.proofs.PointLemmas.{bounds_are}
use Rattle.planar_geom.proofs.ProductLaws.{mul-comm, mul-neg, mul-differences}

ranges_meet-swap : (a b c d : ℤ) → ranges_meet a b c d ≡ ranges_meet c d a b
ranges_meet-swap a b c d = and-swap (int_le a d) (int_le c b)

-- two boxes meet in either order
pub boxes_meet-swap : (b c : Bounds) → boxes_meet b c ≡ boxes_meet c b
boxes_meet-swap b c =
    ap (λ x. x && ranges_meet b.min.y b.max.y c.min.y c.max.y) (ranges_meet-swap b.min.x b.max.x c.min.x c.max.x)
    ∙ ap (λ y. ranges_meet c.min.x c.max.x b.min.x b.max.x && y) (ranges_meet-swap b.min.y b.max.y c.min.y c.max.y)

-- two segments meet in either order
pub meets-swap : (s t : Segment) → meets s t ≡ meets t s
meets-swap s t =
    and-third_second (boxes_meet (box_of_segment s) (box_of_segment t)) (int_le (sides s t) (pos 0)) (int_le (sides t s) (pos 0))
    ∙ ap (λ b. b && int_le (sides t s) (pos 0) && int_le (sides s t) (pos 0)) (boxes_meet-swap (box_of_segment s) (box_of_segment t))

-- the box round a segment is that round its turn
box-turned : (p q : Point) → box_of_segment (segment q p) ≡ box_of_segment (segment p q)
box-turned p q = bounds_are _ _ _ _ _ _ _ _ (omega (arith, ints, clamps)) (omega (arith, ints, clamps)) (omega (arith, ints, clamps)) (omega (arith, ints, clamps))

-- seen from the other end, a point stands on the other side
pub cross-turned : (a b c : Point) → cross b a c ≡ neg_ℤ (cross a b c)
cross-turned a b c =
    let first = mul-differences a.x b.x c.y b.y in
    let second = mul-differences a.y b.y c.x b.x in
    let third = mul-differences b.x a.x c.y a.y in
    let fourth = mul-differences b.y a.y c.x a.x in
    omega (arith, ints, first, second, third, fourth, mul-comm a.x b.y, mul-comm a.y b.x, mul-comm b.x b.y, mul-comm a.x a.y)

int_signum-neg : (z : ℤ) → int_signum (neg_ℤ z) ≡ neg_ℤ (int_signum z)
int_signum-neg (pos zero) = refl
int_signum-neg (pos (suc n)) = omega (arith, ints)
int_signum-neg (negsuc n) = omega (arith, ints)

orient-turned : (a b c : Point) → orient b a c ≡ neg_ℤ (orient a b c)
orient-turned a b c = ap int_signum (cross-turned a b c) ∙ int_signum-neg (cross a b c)

neg-mul-neg : (a b : ℤ) → neg_ℤ a *ℤ neg_ℤ b ≡ a *ℤ b
neg-mul-neg a b = mul-neg (neg_ℤ a) b ∙ ap neg_ℤ (mul-comm (neg_ℤ a) b ∙ mul-neg b a) ∙ omega (arith, ints, mul-comm a b)

-- the sides of a turned segment, multiplied, are those of the segment
sides-turned : (p q : Point) (t : Segment) → sides (segment q p) t ≡ sides (segment p q) t
sides-turned p q t =
    ap (λ z. z *ℤ orient q p t.b) (orient-turned p q t.a)
    ∙ ap (λ z. neg_ℤ (orient p q t.a) *ℤ z) (orient-turned p q t.b)
    ∙ neg-mul-neg (orient p q t.a) (orient p q t.b)

-- a segment meets what its turn meets
pub meets-turned : (p q : Point) (t : Segment) → meets (segment q p) t ≡ meets (segment p q) t
meets-turned p q t =
    ap (λ b. boxes_meet b (box_of_segment t) && int_le (sides (segment q p) t) (pos 0) && int_le (sides t (segment q p)) (pos 0)) (box-turned p q)
    ∙ ap (λ z. boxes_meet (box_of_segment (segment p q)) (box_of_segment t) && int_le z (pos 0) && int_le (sides t (segment q p)) (pos 0)) (sides-turned p q t)
    ∙ ap (λ z. boxes_meet (box_of_segment (segment p q)) (box_of_segment t) && int_le (sides (segment p q) t) (pos 0) && int_le z (pos 0)) (mul-comm (orient t.a t.b q) (orient t.a t.b p))
