-- The place of a box on a Hilbert curve over the plane.
use Rattle.std.specs.Prelude.{ℕ, ◌≡◌, zero, suc, ◌+◌, ◌-◌, ◌*◌, ◌^◌, nat_lt, if◌then◌else◌, ℤ, pos, ◌+ℤ◌, nat_abs}
use Rattle.rtree.specs.declared.entries.Turned.{Turned}
use Rattle.planar_geom.specs.Points.{Bounds, IsBox, centre}

-- the quarter of a square in which a point stands, and the point seen from where the curve comes into that quarter
unfoldable pub turned : ℕ → ℕ → ℕ → Turned
turned half x y =
    if nat_lt x half
    then (if nat_lt y half then record { quarter = 0; x = y; y = x } else record { quarter = 1; x = x; y = y - half })
    else (if nat_lt y half then record { quarter = 3; x = half - 1 - y; y = half - 1 - (x - half) } else
    record { quarter = 2; x = x - half; y = y - half })

-- the place of (x, y) on a Hilbert curve through a square of side 2 ^ levels: that in its quarter, behind the quarters before
unfoldable pub curve_place : ℕ → ℕ → ℕ → ℕ
curve_place zero x y = 0
curve_place (suc k) x y =
    let t = turned (2 ^ k) x y in
    t.quarter * (2 ^ k * 2 ^ k) + curve_place k t.x t.y

-- how far a coordinate stands above the least one
abbrev pub above_least : ℤ → ℕ
above_least a = nat_abs (a +ℤ pos 1000000000)

-- the place of a box: that of its centre
unfoldable pub box_place : Bounds → ℕ
box_place b = curve_place 31 (above_least (centre b).x) (above_least (centre b).y)

-- the box is one, and the number is its place
pub record IsPlaced (place : ℕ) (b : Bounds) : Type 0 where
  pub is : place ≡ box_place b
  pub is_box : IsBox b
