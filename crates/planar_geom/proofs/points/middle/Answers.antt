use Rattle.std.proofs.Common.{arith, sym, subst}
use Rattle.std.proofs.lemmas.Int.{to_z-of_z}
use Rattle.planar_geom.specs.Points.{IsCoordinate}
use Rattle.planar_geom.proofs.PointLemmas.{middle_in}
use Rattle.planar_geom.proofs.points.middle.Goals as goal

pub returns-clause-value : goal.returns-clause-value
returns-clause-value c = grind (arith, to_z-of_z)

pub returns-clause-coordinate : goal.returns-clause-coordinate
returns-clause-coordinate c =
    subst IsCoordinate (sym (returns-clause-value c)) (middle_in c.args.low c.args.high c.requires.low_in c.requires.high_in)
