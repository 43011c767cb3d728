use Rattle.std.proofs.Common.{◌≡◌, drop}
use Rattle.std.specs.List.{list_any}
use Rattle.planar_geom.specs.Figures.{segments_from}
use Rattle.planar_geom.proofs.searches.any_from.Given as goal

-- the segments that are left decide
abbrev pub invariant-loop-next : goal.invariant-loop-next
invariant-loop-next g l =
    list_any (g.T.SegmentTest.passes l.test) (segments_from l.last (drop l.next-index l.rest)) ≡ list_any (g.T.SegmentTest.passes l.test) (segments_from l.fn.first l.rest)
