-- A box that grows round points, one at a time.
use Rattle.std.proofs.Common.{◌≡◌, refl, List, [], ◌∷◌}
use Rattle.std.specs.Prelude.{Some, fold}
use Rattle.planar_geom.specs.Points.{Point, Bounds, with_point, grown}

-- it is the least box round what it held and them
pub fold-grown : (b : Bounds) (ps : List Point) → fold grown (Some b) ps ≡ Some (fold with_point b ps)
fold-grown b [] = refl
fold-grown b (p ∷ ps) = fold-grown (with_point b p) ps
