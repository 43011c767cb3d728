use Rattle.std.proofs.Common.{arith}
use Rattle.std.proofs.lemmas.Int.{ints, clamps}
use Rattle.planar_geom.proofs.points.lowered.Goals as goal

pub returns-clause-coordinate : goal.returns-clause-coordinate
returns-clause-coordinate c = record { low = omega (arith, ints, clamps); high = omega (arith, ints, clamps) }
