use Rattle.std.proofs.Common.{ap, ◌∙◌}
use Rattle.std.specs.Prelude.{Some}
use Rattle.planar_geom.specs.Points.{Bounds, joined}
use Rattle.planar_geom.specs.Shapes.{all_vertices}
use Rattle.planar_geom.proofs.RoundLaws.{joined-grown}
use Rattle.planar_geom.proofs.SizeLaws.{shape-some}
use Rattle.planar_geom.proofs.boxes.with_shape.Goals as goal

pub returns : goal.returns
returns c =
    ap (λ (b : Bounds). Some b) (c.joined.ensures ∙ ap (joined c.args.found) c.bounds.ensures.value)
    ∙ joined-grown c.args.found (all_vertices c.args.shape.now) (shape-some c.args.shape.now c.bounds.ensures.is_shape)
