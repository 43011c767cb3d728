use Rattle.std.proofs.Common.{◌≢◌, arith}
use Rattle.planar_geom.specs.Shapes.{positions}
use Rattle.planar_geom.proofs.SizeLaws.{shape-some}
use Rattle.planar_geom.proofs.shapes.Shape.positions.Goals as goal

pub returns-clause-some : goal.returns-clause-some
returns-clause-some c =
    let some : positions c.self.inside.parts ≢ 0 = shape-some c.self.inside.parts c.self.invariant.0 in
    grind (arith, some, c.self.invariant.2, c.from.ensures)
