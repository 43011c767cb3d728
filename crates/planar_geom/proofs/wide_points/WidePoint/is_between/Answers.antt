use Rattle.std.proofs.Common.{arith}
use Rattle.std.proofs.lemmas.Int.{to_z-of_z}
use Rattle.planar_geom.proofs.wide_points.WidePoint.is_between.Goals as goal

pub returns-then-is_between : goal.returns-then-is_between
returns-then-is_between c = rw (← c.self.view_is, ← c.a.view_is, ← c.b.view_is) (grind (arith, to_z-of_z))
