use Rattle.std.proofs.Common.{subst}
use Rattle.planar_geom.specs.Points.{Bounds, IsBox}
use Rattle.planar_geom.proofs.laws.shape_is_whole.Goals as goal

pub returns : goal.returns
returns c = record { whole = c.bounds.ensures.is_shape; is_box = subst (λ (b : Bounds). IsBox b) c.bounds.ensures.value c.min-low.ensures.is_box }
