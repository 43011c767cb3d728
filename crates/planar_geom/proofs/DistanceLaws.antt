-- The distance to a box: 0 in it, and at most that to any of its points.
use Rattle.std.proofs.Common.{◌≡◌, ℕ, zero, suc, ◌+◌, ◌*◌, ◌≤◌, true, refl, ap, ◌∙◌, arith, ℤ, pos, ◌-ℤ◌, ◌≤ℤ◌}
use Rattle.std.proofs.Math.Nat.{mul-le-mul}
use Rattle.std.specs.Prelude.{nat_abs}
use Rattle.std.proofs.lemmas.Int.{ints}
use Rattle.planar_geom.specs.Points.{Point, Bounds, square, outside_by, box_dist2, dist2, in_range, in_box}
use Rattle.planar_geom.proofs.BoolLemmas.{and-left, and-right, and-both}
use Rattle.planar_geom.proofs.BoxLaws.{inside}

-- a number of the range is at least as far away as the range
outside_by-le : (low high a q : ℤ) → low ≤ℤ q → q ≤ℤ high → nat_abs (outside_by low high a) ≤ nat_abs (a -ℤ q)
outside_by-le low high a q above below = grind (arith, ints)

-- a range is no distance away exactly from what it holds
outside_by-zero : (low high a : ℤ) → in_range low high a ≡ true → outside_by low high a ≡ pos 0
outside_by-zero low high a inside = grind (arith, ints)

zero-outside_by : (low high a : ℤ) → nat_abs (outside_by low high a) ≡ 0 → in_range low high a ≡ true
zero-outside_by low high a none = grind (arith, ints)

-- a square is 0 only where the number is
square-zero : (n : ℕ) → n * n ≡ 0 → n ≡ 0
square-zero zero e = refl
square-zero (suc n) e = absurd (omega (arith, e))

-- a point of a box is at least as far away as the box
pub box_dist2-le : (p : Point) (b : Bounds) (q : Point) → in_box b q ≡ true → box_dist2 p b ≤ dist2 p q
box_dist2-le p b q held =
    let h = inside b q held in
    let x_le : nat_abs (outside_by b.min.x b.max.x p.x) ≤ nat_abs (p.x -ℤ q.x) = outside_by-le b.min.x b.max.x p.x q.x h.left h.right in
    let y_le : nat_abs (outside_by b.min.y b.max.y p.y) ≤ nat_abs (p.y -ℤ q.y) = outside_by-le b.min.y b.max.y p.y q.y h.bottom h.top in
    let x_squares : square (outside_by b.min.x b.max.x p.x) ≤ square (p.x -ℤ q.x) = mul-le-mul x_le x_le in
    let y_squares : square (outside_by b.min.y b.max.y p.y) ≤ square (p.y -ℤ q.y) = mul-le-mul y_le y_le in
    sums _ _ _ _ x_squares y_squares
  where
    sums : (a b c d : ℕ) → a ≤ c → b ≤ d → a + b ≤ c + d
    sums a b c d h k = omega arith

-- a box is no distance away from a point that it holds
pub box_dist2-inside : (p : Point) (b : Bounds) → in_box b p ≡ true → box_dist2 p b ≡ 0
box_dist2-inside p b held =
    let x_in = and-left (in_range b.min.x b.max.x p.x) (in_range b.min.y b.max.y p.y) held in
    let y_in = and-right (in_range b.min.x b.max.x p.x) (in_range b.min.y b.max.y p.y) held in
    ap (λ z. square z + square (outside_by b.min.y b.max.y p.y)) (outside_by-zero b.min.x b.max.x p.x x_in)
    ∙ ap (λ z. square (pos 0) + square z) (outside_by-zero b.min.y b.max.y p.y y_in)

-- a box holds each point from which it is no distance away
pub inside-box_dist2 : (p : Point) (b : Bounds) → box_dist2 p b ≡ 0 → in_box b p ≡ true
inside-box_dist2 p b none =
    let x_size = nat_abs (outside_by b.min.x b.max.x p.x) in
    let y_size = nat_abs (outside_by b.min.y b.max.y p.y) in
    and-both (in_range b.min.x b.max.x p.x) (in_range b.min.y b.max.y p.y) (zero-outside_by b.min.x b.max.x p.x (square-zero x_size (first (x_size * x_size) (y_size * y_size) none))) (zero-outside_by b.min.y b.max.y p.y (square-zero y_size (second (x_size * x_size) (y_size * y_size) none)))
  where
    first : (a b : ℕ) → a + b ≡ 0 → a ≡ 0
    first a b e = omega arith

    second : (a b : ℕ) → a + b ≡ 0 → b ≡ 0
    second a b e = omega arith
