use Rattle.std.proofs.Common.{◌≡◌, true}
use Rattle.planar_geom.specs.Shapes.{is_shape}
use Rattle.planar_geom.proofs.WithinLaws.{within-intersects}
use Rattle.planar_geom.proofs.laws.within_intersects.Goals as goal

pub returns : goal.returns
returns c =
    let whole : is_shape c.args.shape.now ≡ true = c.parts-parts.ensures.is_shape in
    within-intersects c.args.shape.now c.args.area.now whole c.area_is_whole.ensures
