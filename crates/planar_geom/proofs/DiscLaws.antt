-- A segment that comes within a disc reaches the box round it.
use Rattle.std.proofs.Common.{◌≡◌, ℕ, ◌+◌, ◌*◌, ◌<◌, ◌≤◌, ap, ◌∙◌, arith, ℤ, pos, ◌+ℤ◌, ◌-ℤ◌, ◌*ℤ◌, neg_ℤ, ◌≤ℤ◌, ◌<ℤ◌, inl, inr}
use Rattle.std.proofs.Math.Nat.{mul-le-mul, one-le-mul}
use Rattle.std.specs.Prelude.{nat_abs}
use Rattle.std.proofs.lemmas.Bool.Decides.{leb_tells}
use Rattle.std.proofs.lemmas.Int.{ints, unsigned_abs-mul}
use Rattle.planar_geom.specs.Points.{square}
use Rattle.planar_geom.proofs.PointLemmas.{square_is}
use Rattle.planar_geom.proofs.ProductLaws.{mul-neg, mul-sub, mul-comm, add-mul, sub-mul, mul-differences, mul-right-comm}
use Rattle.planar_geom.proofs.SideLaws.{product-not_negative}

-- a height of at most r over a side, times a part of the side, is less than r + 1 times the side
pub reach-bound : (D P W r : ℕ) → 0 < D → P * P ≤ D → W * W ≤ r * r * D → P * W < D * (r + 1)
reach-bound D P W r some part low =
    elim (leb_tells (D * (r + 1)) (P * W)) [
      | inl h ↦ absurd (let great : D * (r + 1) * (D * (r + 1)) ≤ P * W * (P * W) = mul-le-mul h.1 h.1 in let small : P * P * (W * W) ≤ D * (r * r * D) = mul-le-mul part low in let one : 1 ≤ D * D = one-le-mul some some in omega arith)
      | inr h ↦ h.1
    ]

-- the way e to a centre, beside the way d of a segment: the foot is on d, and at most r away
pub record Near (ex ey dx dy : ℤ) (D T r : ℕ) : Type 0 where
  pub length : dx *ℤ dx +ℤ dy *ℤ dy ≡ pos D
  pub scalar : ex *ℤ dx +ℤ ey *ℤ dy ≡ pos T
  pub some : 0 < D
  pub part : T ≤ D
  pub low : nat_abs (ex *ℤ dy -ℤ ey *ℤ dx) * nat_abs (ex *ℤ dy -ℤ ey *ℤ dx) ≤ r * r * D

-- the foot's place in x, times the squared length
foot : (ex ey dx dy : ℤ) → (ex *ℤ dx +ℤ ey *ℤ dy) *ℤ dx -ℤ (dx *ℤ dx +ℤ dy *ℤ dy) *ℤ ex ≡ neg_ℤ ((ex *ℤ dy -ℤ ey *ℤ dx) *ℤ dy)
foot ex ey dx dy =
    let first = add-mul (ex *ℤ dx) (ey *ℤ dy) dx in
    let second = add-mul (dx *ℤ dx) (dy *ℤ dy) ex in
    let third = sub-mul (ex *ℤ dy) (ey *ℤ dx) dy in
    let a : (ex *ℤ dx) *ℤ dx ≡ (dx *ℤ dx) *ℤ ex = ap (λ z. z *ℤ dx) (mul-comm ex dx) ∙ mul-right-comm dx ex dx in
    let b : (ex *ℤ dy) *ℤ dy ≡ (dy *ℤ dy) *ℤ ex = ap (λ z. z *ℤ dy) (mul-comm ex dy) ∙ mul-right-comm dy ex dy in
    let c = mul-right-comm ey dx dy in
    omega (arith, ints, first, second, third, a, b, c)

-- how far the foot can be in x
foot-near : (ex ey dx dy : ℤ) (D T r : ℕ) → Near ex ey dx dy D T r → nat_abs ((ex *ℤ dy -ℤ ey *ℤ dx) *ℤ dy) < D * (r + 1)
foot-near ex ey dx dy D T r near =
    let w = ex *ℤ dy -ℤ ey *ℤ dx in
    let squares : square dx + square dy ≡ D = omega (arith, ints, near.length, square_is dx, square_is dy) in
    let part : nat_abs dy * nat_abs dy ≤ D = omega (arith, squares) in
    let bound : nat_abs dy * nat_abs w < D * (r + 1) = reach-bound D (nat_abs dy) (nat_abs w) r near.some part near.low in
    rw (unsigned_abs-mul w dy) (omega (arith, bound))

-- not both ends of the segment are more than r to the right of the centre
pub not-beyond : (ex ey dx dy : ℤ) (D T r : ℕ) → Near ex ey dx dy D T r → (ex +ℤ pos r) <ℤ pos 0 → (ex +ℤ pos r) <ℤ dx → ⊥
not-beyond ex ey dx dy D T r near first second =
    let reach : ℤ = pos (r + 1) in
    let s : pos 0 ≤ℤ ((pos D -ℤ pos T) *ℤ (neg_ℤ ex -ℤ reach)) = product-not_negative (pos D -ℤ pos T) (neg_ℤ ex -ℤ reach) (omega (arith, ints, near.part)) (omega (arith, ints)) in
    let t : pos 0 ≤ℤ (pos T *ℤ ((dx -ℤ ex) -ℤ reach)) = product-not_negative (pos T) ((dx -ℤ ex) -ℤ reach) (omega (arith, ints)) (omega (arith, ints)) in
    let at : pos T *ℤ dx -ℤ pos D *ℤ ex ≡ neg_ℤ ((ex *ℤ dy -ℤ ey *ℤ dx) *ℤ dy) = rw (← near.scalar, ← near.length) (foot ex ey dx dy) in
    omega (arith, ints, s, t, at, foot-near ex ey dx dy D T r near, mul-differences (pos D) (pos T) (neg_ℤ ex) reach, mul-neg (pos D) ex, mul-neg (pos T) ex, mul-sub (pos T) (dx -ℤ ex) reach, mul-sub (pos T) dx ex)

-- nor to its left
pub not-before : (ex ey dx dy : ℤ) (D T r : ℕ) → Near ex ey dx dy D T r → pos 0 <ℤ (ex -ℤ pos r) → dx <ℤ (ex -ℤ pos r) → ⊥
not-before ex ey dx dy D T r near first second =
    let reach : ℤ = pos (r + 1) in
    let s : pos 0 ≤ℤ ((pos D -ℤ pos T) *ℤ (ex -ℤ reach)) = product-not_negative (pos D -ℤ pos T) (ex -ℤ reach) (omega (arith, ints, near.part)) (omega (arith, ints)) in
    let t : pos 0 ≤ℤ (pos T *ℤ ((ex -ℤ dx) -ℤ reach)) = product-not_negative (pos T) ((ex -ℤ dx) -ℤ reach) (omega (arith, ints)) (omega (arith, ints)) in
    let at : pos T *ℤ dx -ℤ pos D *ℤ ex ≡ neg_ℤ ((ex *ℤ dy -ℤ ey *ℤ dx) *ℤ dy) = rw (← near.scalar, ← near.length) (foot ex ey dx dy) in
    omega (arith, ints, s, t, at, foot-near ex ey dx dy D T r near, mul-differences (pos D) (pos T) ex reach, mul-sub (pos T) (ex -ℤ dx) reach, mul-sub (pos T) ex dx)

-- the same segment with x and y exchanged
pub near-exchanged : (ex ey dx dy : ℤ) (D T r : ℕ) → Near ex ey dx dy D T r → Near ey ex dy dx D T r
near-exchanged ex ey dx dy D T r near =
    let size : nat_abs (ey *ℤ dx -ℤ ex *ℤ dy) ≡ nat_abs (ex *ℤ dy -ℤ ey *ℤ dx) = omega (arith, ints) in
    record {
      length = omega (arith, ints, near.length);
      scalar = omega (arith, ints, near.scalar);
      some = near.some;
      part = near.part;
      low = rw size near.low;
    }
