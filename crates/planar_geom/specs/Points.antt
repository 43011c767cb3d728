-- Points and boxes as contracts see them, and squared distances.
use Rattle.std.specs.Prelude.{ℕ, zero, suc, ◌^◌, nat_le, ℤ, pos, ◌+◌, ◌*◌, ◌<◌, ◌≤◌, ◌≡◌, ◌↔◌, neg_ℤ, Bool, ◌&&◌, ◌-ℤ◌, ◌+ℤ◌, ◌≤ℤ◌, int_le, int_lt}
use Rattle.std.specs.Prelude.{nat_abs, if◌then◌else◌, List, [], ◌∷◌, fold, Option, Some, None}
use Rattle.std.specs.Int.{int_min, int_max, int_div_euclid}
use Rattle.planar_geom.specs.declared.points.TheConstants.{MAX_COORD}

-- a point of whole coordinates
pub record Point : Type 0 where
  pub x : ℤ
  pub y : ℤ

-- a box, from its least corner to its greatest
pub record Bounds : Type 0 where
  pub min : Point
  pub max : Point

-- the point of these coordinates
abbrev pub pt : ℤ → ℤ → Point
pt x y = record { x = x; y = y }

-- the box from `low` to `high`
abbrev pub bounds : Point → Point → Bounds
bounds low high = record { min = low; max = high }

-- the least and the greatest coordinate of the plane
abbrev pub least_coordinate : ℤ
least_coordinate = neg_ℤ MAX_COORD

abbrev pub greatest_coordinate : ℤ
greatest_coordinate = MAX_COORD

-- the number is in a range, ends included
abbrev pub in_range : ℤ → ℤ → ℤ → Bool
in_range low high a = int_le low a && int_le a high

-- two ranges overlap, ends included
abbrev pub ranges_meet : ℤ → ℤ → ℤ → ℤ → Bool
ranges_meet low high low' high' = int_le low high' && int_le low' high

-- whether the number is a coordinate of the plane
abbrev pub is_coordinate : ℤ → Bool
is_coordinate a = in_range least_coordinate greatest_coordinate a

-- the point with these coordinates, where the plane has it
abbrev pub point_at : ℤ → ℤ → Option Point
point_at x y = if is_coordinate x && is_coordinate y then Some (pt x y) else None

-- `low` is at most `high` in x and in y
abbrev pub is_low_of : Point → Point → Bool
is_low_of low high = int_le low.x high.x && int_le low.y high.y

-- the box from `low` to `high`, where there is one
abbrev pub bounds_of : Point → Point → Option Bounds
bounds_of low high = if is_low_of low high then Some (bounds low high) else None

-- the number is a coordinate of the plane
pub record IsCoordinate (a : ℤ) : Type 0 where
  pub low : least_coordinate ≤ℤ a
  pub high : a ≤ℤ greatest_coordinate

-- the point stands on the plane
pub record InPlane (p : Point) : Type 0 where
  pub x_in : IsCoordinate p.x
  pub y_in : IsCoordinate p.y

-- the point stands on the plane, or on it in doubled coordinates
pub record InDoubledPlane (p : Point) : Type 0 where
  pub left : (least_coordinate +ℤ least_coordinate) ≤ℤ p.x
  pub right : p.x ≤ℤ (greatest_coordinate +ℤ greatest_coordinate)
  pub bottom : (least_coordinate +ℤ least_coordinate) ≤ℤ p.y
  pub top : p.y ≤ℤ (greatest_coordinate +ℤ greatest_coordinate)

-- both corners stand on the plane, and neither range of the box is empty
pub record IsBox (b : Bounds) : Type 0 where
  pub min_in_plane : InPlane b.min
  pub max_in_plane : InPlane b.max
  pub x_ordered : b.min.x ≤ℤ b.max.x
  pub y_ordered : b.min.y ≤ℤ b.max.y

-- `a` and `b` are one number
abbrev pub same_int : ℤ → ℤ → Bool
same_int a b = int_le a b && int_le b a

-- both coordinates agree
abbrev pub same_point : Point → Point → Bool
same_point p q = same_int p.x q.x && same_int p.y q.y

-- the square of a number's size
abbrev pub square : ℤ → ℕ
square a = nat_abs a * nat_abs a

-- the squared distance of two points
abbrev pub dist2 : Point → Point → ℕ
dist2 p q = square (p.x -ℤ q.x) + square (p.y -ℤ q.y)

-- how far a number stands outside a range
abbrev pub outside_by : ℤ → ℤ → ℤ → ℤ
outside_by low high a = if int_lt a low then low -ℤ a else (if int_lt high a then a -ℤ high else pos 0)

-- the squared distance to the nearest point of a box
abbrev pub box_dist2 : Point → Bounds → ℕ
box_dist2 p b = square (outside_by b.min.x b.max.x p.x) + square (outside_by b.min.y b.max.y p.y)

-- the point is in the box, ends included
abbrev pub in_box : Bounds → Point → Bool
in_box b p = in_range b.min.x b.max.x p.x && in_range b.min.y b.max.y p.y

-- both ranges overlap, ends included
abbrev pub boxes_meet : Bounds → Bounds → Bool
boxes_meet b c = ranges_meet b.min.x b.max.x c.min.x c.max.x && ranges_meet b.min.y b.max.y c.min.y c.max.y

-- the least box round a box and a point
abbrev pub with_point : Bounds → Point → Bounds
with_point b p =
    bounds (pt (int_min b.min.x p.x) (int_min b.min.y p.y)) (pt (int_max b.max.x p.x) (int_max b.max.y p.y))

-- the least box round two boxes
abbrev pub box_round_both : Bounds → Bounds → Bounds
box_round_both b c = with_point (with_point b c.min) c.max

-- the least box round points, the first of them given apart
abbrev pub box_round : Point → List Point → Bounds
box_round p ps = fold with_point (bounds p p) ps

-- the least box round points
abbrev pub box_of_points : List Point → Bounds
box_of_points [] = bounds (pt (pos 0) (pos 0)) (pt (pos 0) (pos 0))
box_of_points (p ∷ ps) = box_round p ps

-- the least box round what is held by the box found so far, if there is one, and a point
abbrev pub grown : Option Bounds → Point → Option Bounds
grown None p = Some (bounds p p)
grown (Some b) p = Some (with_point b p)

-- the least box round the box found so far, if there is one, and another
abbrev pub joined : Option Bounds → Bounds → Bounds
joined None c = c
joined (Some b) c = box_round_both b c

-- the least box round a disc, cut at the ends of the plane
abbrev pub box_of_disc : Point → ℕ → Bounds
box_of_disc c r =
    bounds
    (pt (int_max (c.x -ℤ pos r) least_coordinate) (int_max (c.y -ℤ pos r) least_coordinate))
    (pt (int_min (c.x +ℤ pos r) greatest_coordinate) (int_min (c.y +ℤ pos r) greatest_coordinate))

-- the corners of a box against the clock, the first also last
abbrev pub corners_of : Bounds → List Point
corners_of b = b.min ∷ pt b.max.x b.min.y ∷ b.max ∷ pt b.min.x b.max.y ∷ b.min ∷ []

-- the centre, each sum halved and rounded down
abbrev pub centre : Bounds → Point
centre b = pt (int_div_euclid (b.min.x +ℤ b.max.x) (pos 2)) (int_div_euclid (b.min.y +ℤ b.max.y) (pos 2))

-- m with those of its bits below 2 ^ k set, from the greatest on, that keep its square at most n
abbrev pub root_above : ℕ → ℕ → ℕ → ℕ
root_above zero n m = m
root_above (suc k) n m = root_above k n (if nat_le ((m + 2 ^ k) * (m + 2 ^ k)) n then m + 2 ^ k else m)

-- the root of n rounded down, for n below 2 ^ 66, so that it can be computed
unfoldable pub floor_root : ℕ → ℕ
floor_root n = root_above 33 n 0

-- what the root of n rounded down is: the greatest number whose square is at most n
pub record IsFloorRoot (n m : ℕ) : Type 0 where
  pub fits : m * m ≤ n
  pub greatest : (k : ℕ) → k * k ≤ n → k ≤ m

-- each number below 2 ^ 66 has one such root, the computed one
abbrev pub HasOneFloorRoot : Type 0
HasOneFloorRoot = (n m : ℕ) → n < 2 ^ 66 → (IsFloorRoot n m ↔ (m ≡ floor_root n))
