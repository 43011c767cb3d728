-- The least box round a box and points.
use Rattle.std.proofs.Common.{◌≡◌, ◌≢◌, ℤ, refl, sym, ◌∙◌, ap, List, [], ◌∷◌, length, arith, ◌≤ℤ◌}
use Rattle.std.specs.Prelude.{Option, Some, None, fold}
use Rattle.std.specs.Int.{int_min, int_max}
use Rattle.std.proofs.lemmas.Int.{ints, int_min_is, int_max_is}
use Rattle.planar_geom.specs.Points.{Point, Bounds, bounds, with_point, box_of_points, box_round_both, grown, joined}
use Rattle.planar_geom.specs.GrownBoxes.{fold-grown}

least : (b l h p : ℤ) → l ≤ℤ h → int_min (int_min (int_min b l) h) p ≡ int_min (int_min b (int_min l p)) (int_max h p)
least b l h p le = omega (arith, ints, int_min_is b l, int_min_is (int_min b l) h, int_min_is (int_min (int_min b l) h) p, int_min_is l p, int_max_is h p, int_min_is b (int_min l p), int_min_is (int_min b (int_min l p)) (int_max h p))

greatest : (b l h p : ℤ) → l ≤ℤ h → int_max (int_max (int_max b l) h) p ≡ int_max (int_max b (int_min l p)) (int_max h p)
greatest b l h p le = omega (arith, ints, int_max_is b l, int_max_is (int_max b l) h, int_max_is (int_max (int_max b l) h) p, int_min_is l p, int_max_is h p, int_max_is b (int_min l p), int_max_is (int_max b (int_min l p)) (int_max h p))

least_once : (b p : ℤ) → int_min b p ≡ int_min (int_min b p) p
least_once b p = omega (arith, ints, int_min_is b p, int_min_is (int_min b p) p)

greatest_once : (b p : ℤ) → int_max b p ≡ int_max (int_max b p) p
greatest_once b p = omega (arith, ints, int_max_is b p, int_max_is (int_max b p) p)

wider : (l h p : ℤ) → l ≤ℤ h → int_min l p ≤ℤ int_max h p
wider l h p le = omega (arith, ints, int_min_is l p, int_max_is h p)

itself : (p : ℤ) → p ≤ℤ p
itself p = omega (arith, ints)

-- neither range of a box is empty
record IsOrdered (c : Bounds) : Type 0 where
  x : c.min.x ≤ℤ c.max.x
  y : c.min.y ≤ℤ c.max.y

still_ordered : (c : Bounds) (p : Point) → IsOrdered c → IsOrdered (with_point c p)
still_ordered c p o = record { x = wider c.min.x c.max.x p.x o.x; y = wider c.min.y c.max.y p.y o.y }

one_point : (p : Point) → IsOrdered (bounds p p)
one_point p = record { x = itself p.x; y = itself p.y }

-- a point is taken into the box round two by taking it into the second
round_step : (b c : Bounds) (p : Point) → IsOrdered c → with_point (box_round_both b c) p ≡ box_round_both b (with_point c p)
round_step b c p o = rw (least b.min.x c.min.x c.max.x p.x o.x, least b.min.y c.min.y c.max.y p.y o.y, greatest b.max.x c.min.x c.max.x p.x o.x, greatest b.max.y c.min.y c.max.y p.y o.y) refl

first_step : (b : Bounds) (p : Point) → with_point b p ≡ box_round_both b (bounds p p)
first_step b p = rw (← least_once b.min.x p.x, ← least_once b.min.y p.y, ← greatest_once b.max.x p.x, ← greatest_once b.max.y p.y) refl

round_more : (b c : Bounds) (ps : List Point) → IsOrdered c → fold with_point (box_round_both b c) ps ≡ box_round_both b (fold with_point c ps)
round_more b c [] o = refl
round_more b c (p ∷ ps) o = ap (λ (d : Bounds). fold with_point d ps) (round_step b c p o) ∙ round_more b (with_point c p) ps (still_ordered c p o)

-- a box joined with the box round points is the box grown round them
pub joined-grown : (found : Option Bounds) (ps : List Point) → length ps ≢ 0 → Some (joined found (box_of_points ps)) ≡ fold grown found ps
joined-grown found [] h = absurd (h refl)
joined-grown None (p ∷ ps) h = sym (fold-grown (bounds p p) ps)
joined-grown (Some b) (p ∷ ps) h =
    ap (λ (c : Bounds). Some c) (sym (round_more b (bounds p p) ps (one_point p)) ∙ ap (λ (d : Bounds). fold with_point d ps) (sym (first_step b p))) ∙ sym (fold-grown b (p ∷ ps))
