use Rattle.std.proofs.Common.{◌≡◌, true, subst}
use Rattle.planar_geom.specs.Points.{Bounds, IsBox, boxes_meet}
use Rattle.planar_geom.specs.Shapes.{box_of}
use Rattle.planar_geom.specs.Relations.{intersects, area_box}
use Rattle.planar_geom.proofs.AreaLaws.{met-boxes}
use Rattle.planar_geom.proofs.laws.met_boxes_meet.Goals as goal

pub returns : goal.returns
returns c =
    let shape = c.args.shape.now in
    let area = c.args.area.now in
    let is_box : IsBox (box_of shape) = subst (λ (b : Bounds). IsBox b) c.bounds.ensures.value c.min-low.ensures.is_box in
    let met : intersects shape area ≡ true → boxes_meet (box_of shape) (area_box area) ≡ true = λ e. met-boxes shape area c.bounds.ensures.is_shape is_box c.area_is_whole.ensures e in
    record { met = met; inside = λ e. met (c.within_intersects.ensures e) }
