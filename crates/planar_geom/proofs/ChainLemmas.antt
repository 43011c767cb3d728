-- Chains of points and their segments.
use Rattle.std.proofs.Common.{◌≡◌, ◌-◌, ◌<◌, List, [], ◌∷◌, length, refl, ap, ◌∙◌, get_or, arith, true, nat_lt}
use Rattle.planar_geom.specs.Points.{Point, same_point}
use Rattle.planar_geom.specs.Figures.{last_of, is_ring, is_closed}

-- the last of a list with a first
pub get_or-last : (p : Point) (ps : List Point) (d : Point) → get_or (p ∷ ps) (length ps) d ≡ last_of p ps
get_or-last p [] d = refl
get_or-last p (q ∷ qs) d = get_or-last q qs d

-- a ring of over three points is closed
pub closed-ring : (points : List Point) → 3 < length points → is_closed points ≡ is_ring points
closed-ring [] long = absurd (omega (arith, long))
closed-ring (p ∷ ps) long =
    let long_enough : nat_lt 2 (length ps) ≡ true = grind arith in
    rw long_enough refl

-- whether points are closed is told by the first and the last of them
pub closed-ends : (points : List Point) (p q : Point) → 0 < length points → p ≡ get_or points 0 p → q ≡ get_or points (length points - 1) q → same_point p q ≡ is_closed points
closed-ends [] p q some first last = absurd (omega (arith, some))
closed-ends (r ∷ rs) p q some first last =
    let place : length (r ∷ rs) - 1 ≡ length rs = omega arith in
    let last_is : q ≡ last_of r rs = last ∙ ap (λ k. get_or (r ∷ rs) k q) place ∙ get_or-last r rs q in
    let first_is : p ≡ r = first in
    rw (first_is, last_is) refl
