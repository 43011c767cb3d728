-- The side of an edge on which a point stands that is left or right of both its ends.
use Rattle.std.proofs.Common.{◌≡◌, zero, suc, arith, ℤ, pos, negsuc, ◌+ℤ◌, ◌-ℤ◌, ◌*ℤ◌, ◌≤ℤ◌, ◌<ℤ◌}
use Rattle.std.proofs.lemmas.Int.{ints}
use Rattle.planar_geom.specs.Points.{Point}
use Rattle.planar_geom.specs.Figures.{cross}
use Rattle.planar_geom.proofs.ProductLaws.{mul-comm, mul-differences}

-- products of numbers that are not negative, and of numbers above 0
pub product-not_negative : (a b : ℤ) → pos 0 ≤ℤ a → pos 0 ≤ℤ b → pos 0 ≤ℤ (a *ℤ b)
product-not_negative (pos a) (pos b) h k = omega (arith, ints)
product-not_negative (pos a) (negsuc b) h k = absurd (omega (arith, ints))
product-not_negative (negsuc a) b h k = absurd (omega (arith, ints))

pub product-positive : (a b : ℤ) → pos 0 <ℤ a → pos 0 <ℤ b → pos 0 <ℤ (a *ℤ b)
product-positive (pos (suc a)) (pos (suc b)) h k = omega (arith, ints)
product-positive (pos zero) b h k = absurd (omega (arith, ints))
product-positive (pos (suc a)) (pos zero) h k = absurd (omega (arith, ints))
product-positive (pos (suc a)) (negsuc b) h k = absurd (omega (arith, ints))
product-positive (negsuc a) b h k = absurd (omega (arith, ints))

-- a cross product, as seen from its third point
pub cross-parts : (q r p : Point) → cross q r p ≡ (r.x -ℤ p.x) *ℤ (p.y -ℤ q.y) +ℤ (q.x -ℤ p.x) *ℤ (r.y -ℤ p.y)
cross-parts q r p =
    let first = mul-differences r.x q.x p.y q.y in
    let second = mul-differences r.y q.y p.x q.x in
    let third = mul-differences r.x p.x p.y q.y in
    let fourth = mul-differences q.x p.x r.y p.y in
    omega (arith, ints, first, second, third, fourth, mul-comm r.y p.x, mul-comm r.y q.x, mul-comm q.y p.x, mul-comm q.y q.x)

-- an edge that rises past a point left of both its ends has it on its left
pub rising-left : (q r p : Point) → q.y ≤ℤ p.y → p.y <ℤ r.y → p.x <ℤ q.x → p.x <ℤ r.x → pos 0 <ℤ cross q r p
rising-left q r p below above left_q left_r =
    let first : pos 0 ≤ℤ ((r.x -ℤ p.x) *ℤ (p.y -ℤ q.y)) = product-not_negative (r.x -ℤ p.x) (p.y -ℤ q.y) (omega (arith, ints)) (omega (arith, ints)) in
    let second : pos 0 <ℤ ((q.x -ℤ p.x) *ℤ (r.y -ℤ p.y)) = product-positive (q.x -ℤ p.x) (r.y -ℤ p.y) (omega (arith, ints)) (omega (arith, ints)) in
    omega (arith, ints, cross-parts q r p)

-- one that rises past a point that is not left of its ends has it nowhere on its left
pub rising-right : (q r p : Point) → q.y ≤ℤ p.y → p.y ≤ℤ r.y → q.x ≤ℤ p.x → r.x ≤ℤ p.x → cross q r p ≤ℤ pos 0
rising-right q r p below above right_q right_r =
    let first : pos 0 ≤ℤ ((p.x -ℤ r.x) *ℤ (p.y -ℤ q.y)) = product-not_negative (p.x -ℤ r.x) (p.y -ℤ q.y) (omega (arith, ints)) (omega (arith, ints)) in
    let second : pos 0 ≤ℤ ((p.x -ℤ q.x) *ℤ (r.y -ℤ p.y)) = product-not_negative (p.x -ℤ q.x) (r.y -ℤ p.y) (omega (arith, ints)) (omega (arith, ints)) in
    omega (arith, ints, cross-parts q r p, mul-differences r.x p.x p.y q.y, mul-differences q.x p.x r.y p.y, mul-differences p.x r.x p.y q.y, mul-differences p.x q.x r.y p.y)
