use Rattle.std.proofs.Common.{arith}
use Rattle.std.proofs.lemmas.Int.{to_z-of_z}
use Rattle.planar_geom.proofs.points.BBox.meets.Goals as goal

pub returns-then-ranges_overlap-clause-value : goal.returns-then-ranges_overlap-clause-value
returns-then-ranges_overlap-clause-value c = rw (← c.self.view_is, ← c.other.view_is) (grind (arith, to_z-of_z))

pub returns-else-ranges_overlap-clause-value : goal.returns-else-ranges_overlap-clause-value
returns-else-ranges_overlap-clause-value c = rw (← c.self.view_is, ← c.other.view_is) (grind (arith, to_z-of_z))
