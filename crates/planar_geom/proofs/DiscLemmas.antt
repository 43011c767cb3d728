-- Segments that come near a centre.
use Rattle.std.proofs.Common.{◌≡◌, ℕ, Bool, true, false, pos, ◌*◌, ◌*ℤ◌, ◌-ℤ◌}
use Rattle.std.specs.Prelude.{◌&&◌, int_le, int_lt}
use Rattle.planar_geom.specs.Points.{Point, square}
use Rattle.planar_geom.specs.Figures.{dot}
use Rattle.planar_geom.specs.Relations.{comes_near}
use Rattle.planar_geom.proofs.BoolLemmas.{and-first, and-second}

-- the foot of e is on d
abbrev foot_on : Point → Point → Bool
foot_on e d = int_lt (pos 0) (dot d d) && int_le (pos 0) (dot e d) && int_le (dot e d) (dot d d)

-- e ends at most r away from the line along d
abbrev low_over : Point → ℕ → Point → Bool
low_over e r d = int_le (pos (square (e.x *ℤ d.y -ℤ e.y *ℤ d.x))) (pos (r * r) *ℤ dot d d)

pub comes_near-second : (e d : Point) (r : ℕ) (low : Bool) → foot_on e d ≡ true → low ≡ low_over e r d → low ≡ comes_near e r d
comes_near-second e d r low foot low_is = and-second (foot_on e d) (low_over e r d) low foot low_is

pub comes_near-first : (e d : Point) (r : ℕ) (foot : Bool) → foot_on e d ≡ false → foot ≡ false → foot ≡ comes_near e r d
comes_near-first e d r foot none foot_is = and-first (foot_on e d) (low_over e r d) foot none foot_is
