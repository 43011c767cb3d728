-- The pairs of a box and a number that a tree holds, their order, and what is asked of them.
use Rattle.std.specs.Prelude.{ℕ, ◌≡◌, ◌≤ℤ◌, Bool, true, false, if◌then◌else◌, List, [], ◌∷◌, ◌++◌, map, All}
use Rattle.std.specs.List.{filter, Contains}
use Rattle.std.specs.declared.cmp.Ordering.{Ordering}
use Rattle.std.specs.Ordering.{nat_cmp, int_cmp, on, then_cmp, is_lt}
use Rattle.planar_geom.specs.Points.{Point, Bounds, boxes_meet}
use Rattle.rtree.specs.Curve.{box_place}

-- a box and the number that stands for what it is round
pub record Pair : Type 0 where
  pub bounds : Bounds
  pub id : ℕ

-- the pair of this box and this number
abbrev pub pair : Bounds → ℕ → Pair
pair b n = record { bounds = b; id = n }

-- points by x, then by y
abbrev pub point_cmp : Point → Point → Ordering
point_cmp = then_cmp (on (λ p. p.x) int_cmp) (on (λ p. p.y) int_cmp)

-- pairs by the box, then by the number
abbrev pub box_cmp : Pair → Pair → Ordering
box_cmp = then_cmp (on (λ p. p.bounds.min) point_cmp) (then_cmp (on (λ p. p.bounds.max) point_cmp) (on (λ p. p.id) nat_cmp))

-- pairs by the place of the box on the curve, then by the box, then by the number
unfoldable pub pair_cmp : Pair → Pair → Ordering
pair_cmp = then_cmp (on (λ p. box_place p.bounds) nat_cmp) box_cmp

-- the earlier of two pairs
abbrev pub earlier : Pair → Pair → Pair
earlier a b = if is_lt (pair_cmp a b) then a else b

-- a stands before b
pub record IsBefore (a b : Pair) : Type 0 where
  pub less : is_lt (pair_cmp a b) ≡ true

-- b does not stand before a
pub record IsAtMost (a b : Pair) : Type 0 where
  pub not_less : is_lt (pair_cmp b a) ≡ false

-- each pair is at most those behind it
abbrev pub IsOrdered : List Pair → Type 0
IsOrdered [] = Unit {0}
IsOrdered (p ∷ ps) = All (IsAtMost p) ps × IsOrdered ps

-- the pairs of `small`, and p somewhere among them
pub record IsWith (p : Pair) (small large : List Pair) : Type 0 where
  pub front : List Pair
  pub back : List Pair
  pub without : small ≡ front ++ back
  pub with : large ≡ front ++ p ∷ back

-- the same, where p stands behind those that are before it and before those that are behind it
pub record IsPut (p : Pair) (small large : List Pair) : Type 0 where
  pub there : IsWith p small large
  pub below : All (λ q. IsAtMost q p) there.front
  pub above : All (IsAtMost p) there.back

-- what taking a pair out answers: it was there and is gone, or there was none and all is as before
abbrev pub IsTaken : Bool → Pair → List Pair → List Pair → Type 0
IsTaken true p old new = IsWith p new old
IsTaken false p old new = (Contains old p → ⊥) × (new ≡ old)

-- the inner box is one, and the outer holds it
pub record IsInside (outer inner : Bounds) : Type 0 where
  pub left : outer.min.x ≤ℤ inner.min.x
  pub bottom : outer.min.y ≤ℤ inner.min.y
  pub wide : inner.min.x ≤ℤ inner.max.x
  pub high : inner.min.y ≤ℤ inner.max.y
  pub right : inner.max.x ≤ℤ outer.max.x
  pub top : inner.max.y ≤ℤ outer.max.y

-- the numbers of pairs
abbrev pub ids : List Pair → List ℕ
ids pairs = map (λ p. p.id) pairs

-- the numbers of the pairs whose box meets a box
abbrev pub ids_meeting : Bounds → List Pair → List ℕ
ids_meeting b pairs = ids (filter (λ p. boxes_meet p.bounds b) pairs)

-- some first numbers of a list were put behind the old ones
pub record IsPart (old new all : List ℕ) : Type 0 where
  pub some : List ℕ
  pub rest : List ℕ
  pub put : new ≡ old ++ some
  pub whole : all ≡ some ++ rest
