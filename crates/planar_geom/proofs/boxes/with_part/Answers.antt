use Rattle.std.proofs.Common.{ap, ◌∙◌}
use Rattle.std.specs.Prelude.{Some}
use Rattle.planar_geom.specs.Points.{Bounds, joined}
use Rattle.planar_geom.specs.Shapes.{vertices}
use Rattle.planar_geom.proofs.RoundLaws.{joined-grown}
use Rattle.planar_geom.proofs.SizeLaws.{part-some}
use Rattle.planar_geom.proofs.boxes.with_part.Goals as goal

pub returns-clause-value : goal.returns-clause-value
returns-clause-value c =
    ap (λ (b : Bounds). Some b) (c.joined.ensures ∙ ap (joined c.args.found) c.box_of_part.ensures.value)
    ∙ joined-grown c.args.found (vertices c.args.part.now) (part-some c.args.part.now c.box_of_part.ensures.is_part)
