-- The face of a box holds what the box holds.
use Rattle.std.proofs.Common.{◌≡◌, true, false, refl, ap, ◌∙◌, arith, ℤ, pos, ◌+ℤ◌, ◌-ℤ◌, ◌*ℤ◌, ◌≤ℤ◌, ◌<ℤ◌, [], ◌∷◌}
use Rattle.std.proofs.Math.IntN.{*ℤ-zero, zero-*ℤ}
use Rattle.std.specs.Prelude.{int_le, int_lt}
use Rattle.std.specs.Int.{int_signum}
use Rattle.std.specs.List.{list_any}
use Rattle.std.proofs.lemmas.Int.{ints, clamps, by_lt_z}
use Rattle.planar_geom.specs.Points.{Point, Bounds, pt, in_box, corners_of}
use Rattle.planar_geom.specs.Figures.{segment, segments_from, cross, orient, differ, on_segment, on_edge, is_odd, in_poly, box_of_segment}
use Rattle.planar_geom.proofs.BoolLemmas.{and-both, or-left, or-right}
use Rattle.planar_geom.proofs.BoxLaws.{Inside, in_box-from}
use Rattle.planar_geom.proofs.ParityLaws.{odd_past, odd_past-cons, passes-level, passes-rising_left, passes-falling_right, to_lt, not_lt}
use Rattle.planar_geom.proofs.SideLemmas.{on_segment-is}
use Rattle.planar_geom.proofs.SideLaws.{cross-parts}

-- a point in the box of a segment and on its line is on it
on-from : (p q r : Point) → Inside (box_of_segment (segment q r)) p → cross q r p ≡ pos 0 → on_segment p (segment q r) ≡ true
on-from p q r held on_line =
    on_segment-is p (segment q r) ∙ and-both (in_box (box_of_segment (segment q r)) p) (int_le (orient q r p *ℤ orient q r p) (pos 0)) (in_box-from (box_of_segment (segment q r)) p held) (ap (λ z. int_le (int_signum z *ℤ int_signum z) (pos 0)) on_line)

on_vertical : (x low high : ℤ) (p : Point) → p.x ≡ x → low ≤ℤ p.y → p.y ≤ℤ high → on_segment p (segment (pt x low) (pt x high)) ≡ true
on_vertical x low high p at above below =
    let none : x -ℤ p.x ≡ pos 0 = omega (arith, ints) in
    on-from p (pt x low) (pt x high) (record { left = omega (arith, ints, clamps); right = omega (arith, ints, clamps); bottom = omega (arith, ints, clamps); top = omega (arith, ints, clamps) })
    (cross-parts (pt x low) (pt x high) p ∙ ap (λ z. z *ℤ (p.y -ℤ low) +ℤ z *ℤ (high -ℤ p.y)) none ∙ ap (λ z. z +ℤ pos 0 *ℤ (high -ℤ p.y)) (zero-*ℤ (p.y -ℤ low)) ∙ ap (λ z. pos 0 +ℤ z) (zero-*ℤ (high -ℤ p.y)))

on_horizontal : (low high y : ℤ) (p : Point) → p.y ≡ y → low ≤ℤ p.x → p.x ≤ℤ high → on_segment p (segment (pt high y) (pt low y)) ≡ true
on_horizontal low high y p at above below =
    let none : p.y -ℤ y ≡ pos 0 = omega (arith, ints) in
    let none' : y -ℤ p.y ≡ pos 0 = omega (arith, ints) in
    on-from p (pt high y) (pt low y) (record { left = omega (arith, ints, clamps); right = omega (arith, ints, clamps); bottom = omega (arith, ints, clamps); top = omega (arith, ints, clamps) })
    (cross-parts (pt high y) (pt low y) p ∙ ap (λ z. (low -ℤ p.x) *ℤ z +ℤ (high -ℤ p.x) *ℤ (y -ℤ p.y)) none ∙ ap (λ z. (low -ℤ p.x) *ℤ pos 0 +ℤ (high -ℤ p.x) *ℤ z) none' ∙ ap (λ z. z +ℤ (high -ℤ p.x) *ℤ pos 0) (*ℤ-zero (low -ℤ p.x)) ∙ ap (λ z. pos 0 +ℤ z) (*ℤ-zero (high -ℤ p.x)))

-- below and left of the greatest corner, the right edge alone passes to the right
odd-face : (b : Bounds) (p : Point) → Inside b p → p.x <ℤ b.max.x → p.y <ℤ b.max.y → is_odd (corners_of b ∷ []) p ≡ true
unfolding odd_past
odd-face b p held left_of under =
    let se = pt b.max.x b.min.y in
    let nw = pt b.min.x b.max.y in
    let low : int_lt p.y b.min.y ≡ false = not_lt held.bottom in
    let high : int_lt p.y b.max.y ≡ true = to_lt under in
    let e₁ = passes-level p b.min se (int_lt p.y b.min.y) refl refl in
    let e₂ = passes-rising_left p se b.max low high left_of left_of in
    let e₃ = passes-level p b.max nw (int_lt p.y b.max.y) refl refl in
    let e₄ = passes-falling_right p nw b.min high low held.left held.left in
    let last = odd_past-cons p (segment nw b.min) [] ∙ ap (λ t. differ t false) e₄ in
    let third = odd_past-cons p (segment b.max nw) (segment nw b.min ∷ []) ∙ ap (λ t. differ t (odd_past p (segment nw b.min ∷ []))) e₃ ∙ last in
    let second = odd_past-cons p (segment se b.max) (segment b.max nw ∷ segment nw b.min ∷ []) ∙ ap (λ t. differ t (odd_past p (segment b.max nw ∷ segment nw b.min ∷ []))) e₂ ∙ ap (differ true) third in
    odd_past-cons p (segment b.min se) (segment se b.max ∷ segment b.max nw ∷ segment nw b.min ∷ [])
    ∙ ap (λ t. differ t (odd_past p (segment se b.max ∷ segment b.max nw ∷ segment nw b.min ∷ []))) e₁
    ∙ second

-- the face of a box holds each point of the box
pub face-holds : (b : Bounds) (p : Point) → Inside b p → in_poly (corners_of b ∷ []) p ≡ true
face-holds b p held =
    by_lt_z p.x b.max.x
    (λ left_of. by_lt_z p.y b.max.y
    (λ under. or-right (on_edge (corners_of b ∷ []) p) (is_odd (corners_of b ∷ []) p) (odd-face b p held left_of under))
    (λ over. or-left (on_edge (corners_of b ∷ []) p) (is_odd (corners_of b ∷ []) p) (on_third (on_horizontal b.min.x b.max.x b.max.y p (omega (arith, ints, held.top, over)) held.left held.right))))
    (λ right_of. or-left (on_edge (corners_of b ∷ []) p) (is_odd (corners_of b ∷ []) p) (on_second (on_vertical b.max.x b.min.y b.max.y p (omega (arith, ints, held.right, right_of)) held.bottom held.top)))
  where
    on_second : on_segment p (segment (pt b.max.x b.min.y) b.max) ≡ true → on_edge (corners_of b ∷ []) p ≡ true
    on_second on = or-right (on_segment p (segment b.min (pt b.max.x b.min.y))) (list_any (on_segment p) (segments_from (pt b.max.x b.min.y) (b.max ∷ pt b.min.x b.max.y ∷ b.min ∷ []))) (or-left (on_segment p (segment (pt b.max.x b.min.y) b.max)) (list_any (on_segment p) (segments_from b.max (pt b.min.x b.max.y ∷ b.min ∷ []))) on)

    on_third : on_segment p (segment b.max (pt b.min.x b.max.y)) ≡ true → on_edge (corners_of b ∷ []) p ≡ true
    on_third on = or-right (on_segment p (segment b.min (pt b.max.x b.min.y))) (list_any (on_segment p) (segments_from (pt b.max.x b.min.y) (b.max ∷ pt b.min.x b.max.y ∷ b.min ∷ []))) (or-right (on_segment p (segment (pt b.max.x b.min.y) b.max)) (list_any (on_segment p) (segments_from b.max (pt b.min.x b.max.y ∷ b.min ∷ []))) (or-left (on_segment p (segment b.max (pt b.min.x b.max.y))) (list_any (on_segment p) (segments_from (pt b.min.x b.max.y) (b.min ∷ []))) on))
