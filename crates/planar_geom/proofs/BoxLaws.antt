-- What boxes hold.
use Rattle.std.proofs.Common.{◌≡◌, true, refl, arith, ℤ, pos, negsuc, ◌+ℤ◌, ◌≤ℤ◌, List, [], ◌∷◌}
use Rattle.std.specs.Prelude.{int_le, fold}
use Rattle.std.specs.List.{list_all}
use Rattle.std.specs.Int.{int_div_euclid}
use Rattle.std.proofs.lemmas.Int.{ints, clamps}
use Rattle.planar_geom.specs.Points.{Point, Bounds, in_range, in_box, boxes_meet, with_point, bounds, ranges_meet, centre, box_round_both, IsBox}
use Rattle.planar_geom.specs.Figures.{Segment, segment, box_of_segment}
use Rattle.planar_geom.specs.Shapes.{box_of_points}
use Rattle.planar_geom.proofs.BoolLemmas.{and-left, and-right, and-both}

-- tests of order and what they tell
pub from_le : {a b : ℤ} → int_le a b ≡ true → a ≤ℤ b
from_le {a} {b} e = grind (arith, ints)

pub to_le : {a b : ℤ} → a ≤ℤ b → int_le a b ≡ true
to_le {a} {b} h = grind (arith, ints)

-- a point in a box, by its four orders
pub record Inside (b : Bounds) (p : Point) : Type 0 where
  pub left : b.min.x ≤ℤ p.x
  pub right : p.x ≤ℤ b.max.x
  pub bottom : b.min.y ≤ℤ p.y
  pub top : p.y ≤ℤ b.max.y

pub inside : (b : Bounds) (p : Point) → in_box b p ≡ true → Inside b p
inside b p h =
    let x_in = and-left (in_range b.min.x b.max.x p.x) (in_range b.min.y b.max.y p.y) h in
    let y_in = and-right (in_range b.min.x b.max.x p.x) (in_range b.min.y b.max.y p.y) h in
    record {
      left = from_le (and-left (int_le b.min.x p.x) (int_le p.x b.max.x) x_in);
      right = from_le (and-right (int_le b.min.x p.x) (int_le p.x b.max.x) x_in);
      bottom = from_le (and-left (int_le b.min.y p.y) (int_le p.y b.max.y) y_in);
      top = from_le (and-right (int_le b.min.y p.y) (int_le p.y b.max.y) y_in);
    }

pub in_box-from : (b : Bounds) (p : Point) → Inside b p → in_box b p ≡ true
in_box-from b p h = rw (to_le h.left, to_le h.right, to_le h.bottom, to_le h.top) refl

-- a larger box holds what a box held, and its new point
pub with_point-old : (b : Bounds) (p v : Point) → Inside b v → Inside (with_point b p) v
with_point-old b p v h = record { left = omega (arith, ints, clamps); right = omega (arith, ints, clamps); bottom = omega (arith, ints, clamps); top = omega (arith, ints, clamps) }

pub with_point-new : (b : Bounds) (p : Point) → Inside (with_point b p) p
with_point-new b p = record { left = omega (arith, ints, clamps); right = omega (arith, ints, clamps); bottom = omega (arith, ints, clamps); top = omega (arith, ints, clamps) }

pub fold-old : (b : Bounds) (ps : List Point) (v : Point) → Inside b v → Inside (fold with_point b ps) v
fold-old b [] v h = h
fold-old b (p ∷ ps) v h = fold-old (with_point b p) ps v (with_point-old b p v h)

fold-all : (b : Bounds) (ps : List Point) → list_all (in_box (fold with_point b ps)) ps ≡ true
fold-all b [] = refl
fold-all b (p ∷ ps) =
    and-both (in_box (fold with_point (with_point b p) ps) p) (list_all (in_box (fold with_point (with_point b p) ps)) ps) (in_box-from _ p (fold-old (with_point b p) ps p (with_point-new b p))) (fold-all (with_point b p) ps)

-- the box round points holds them all
pub box_of_points-all : (ps : List Point) → list_all (in_box (box_of_points ps)) ps ≡ true
box_of_points-all [] = refl
box_of_points-all (p ∷ ps) =
    and-both (in_box (fold with_point (bounds p p) ps) p) (list_all (in_box (fold with_point (bounds p p) ps)) ps) (in_box-from _ p (fold-old (bounds p p) ps p (record { left = omega (arith, ints); right = omega (arith, ints); bottom = omega (arith, ints); top = omega (arith, ints) }))) (fold-all (bounds p p) ps)

-- boxes that hold one point meet
pub meet-at : (b c : Bounds) (p : Point) → Inside b p → Inside c p → boxes_meet b c ≡ true
meet-at b c p h k =
    let x₁ : b.min.x ≤ℤ c.max.x = omega (arith, ints) in
    let x₂ : c.min.x ≤ℤ b.max.x = omega (arith, ints) in
    let y₁ : b.min.y ≤ℤ c.max.y = omega (arith, ints) in
    let y₂ : c.min.y ≤ℤ b.max.y = omega (arith, ints) in
    rw (to_le x₁, to_le x₂, to_le y₁, to_le y₂) refl

-- what the box round a segment holds, each box that holds its ends does
pub segment_box-inside : (b : Bounds) (s : Segment) (p : Point) → Inside b s.a → Inside b s.b → Inside (box_of_segment s) p → Inside b p
segment_box-inside b s p h k i = record { left = omega (arith, ints, clamps, i.left); right = omega (arith, ints, clamps, i.right); bottom = omega (arith, ints, clamps, i.bottom); top = omega (arith, ints, clamps, i.top) }

half-between : (z low high : ℤ) → (low +ℤ low) ≤ℤ z → z ≤ℤ (high +ℤ high) → (low ≤ℤ int_div_euclid z (pos 2)) × (int_div_euclid z (pos 2) ≤ℤ high)
half-between (pos n) low high h k = (omega (arith, ints), omega (arith, ints))
half-between (negsuc n) low high h k = (omega (arith, ints), omega (arith, ints))

-- a box holds its centre
pub centre-inside : (b : Bounds) → IsBox b → Inside b (centre b)
centre-inside b is_box =
    let x_ordered = is_box.x_ordered in
    let y_ordered = is_box.y_ordered in
    let x_half = half-between (b.min.x +ℤ b.max.x) b.min.x b.max.x (omega (arith, ints)) (omega (arith, ints)) in
    let y_half = half-between (b.min.y +ℤ b.max.y) b.min.y b.max.y (omega (arith, ints)) (omega (arith, ints)) in
    record { left = x_half.0; right = x_half.1; bottom = y_half.0; top = y_half.1 }

-- what meets the box of a way from one box to another meets the least box round both
pub both-meet : (b c d : Bounds) (p q : Point) → Inside b p → Inside c q → IsBox c → boxes_meet (box_of_segment (segment p q)) d ≡ true → boxes_meet (box_round_both b c) d ≡ true
both-meet b c d p q in_b in_c is_box met =
    let way = box_of_segment (segment p q) in
    let x_met = and-left (ranges_meet way.min.x way.max.x d.min.x d.max.x) (ranges_meet way.min.y way.max.y d.min.y d.max.y) met in
    let y_met = and-right (ranges_meet way.min.x way.max.x d.min.x d.max.x) (ranges_meet way.min.y way.max.y d.min.y d.max.y) met in
    let x₁ : way.min.x ≤ℤ d.max.x = from_le (and-left (int_le way.min.x d.max.x) (int_le d.min.x way.max.x) x_met) in
    let x₂ : d.min.x ≤ℤ way.max.x = from_le (and-right (int_le way.min.x d.max.x) (int_le d.min.x way.max.x) x_met) in
    let y₁ : way.min.y ≤ℤ d.max.y = from_le (and-left (int_le way.min.y d.max.y) (int_le d.min.y way.max.y) y_met) in
    let y₂ : d.min.y ≤ℤ way.max.y = from_le (and-right (int_le way.min.y d.max.y) (int_le d.min.y way.max.y) y_met) in
    let all = box_round_both b c in
    let u₁ : all.min.x ≤ℤ d.max.x = omega (arith, ints, clamps, x₁, in_b.left, in_c.left, is_box.x_ordered) in
    let u₂ : d.min.x ≤ℤ all.max.x = omega (arith, ints, clamps, x₂, in_b.right, in_c.right, is_box.x_ordered) in
    let v₁ : all.min.y ≤ℤ d.max.y = omega (arith, ints, clamps, y₁, in_b.bottom, in_c.bottom, is_box.y_ordered) in
    let v₂ : d.min.y ≤ℤ all.max.y = omega (arith, ints, clamps, y₂, in_b.top, in_c.top, is_box.y_ordered) in
    rw (to_le u₁, to_le u₂, to_le v₁, to_le v₂) refl
