use Rattle.std.proofs.Common.{◌≡◌, drop}
use Rattle.std.specs.List.{list_any}
use Rattle.planar_geom.specs.Relations.{touch}
use Rattle.planar_geom.proofs.relations.touches_any.Given as goal

-- the parts that are left decide
abbrev pub invariant-loop-other : goal.invariant-loop-other
invariant-loop-other g l = list_any (touch (g.A.Region.part l.a)) (drop l.other-index l.others) ≡ list_any (touch (g.A.Region.part l.a)) l.others
