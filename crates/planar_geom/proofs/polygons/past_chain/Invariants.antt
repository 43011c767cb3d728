use Rattle.std.proofs.Common.{◌≡◌, drop}
use Rattle.std.specs.Prelude.{fold, map}
use Rattle.planar_geom.specs.Figures.{segments_from}
use Rattle.planar_geom.specs.Standings.{on_grid, with_edge}
use Rattle.planar_geom.proofs.polygons.past_chain.Given as goal

-- what is left to do makes the whole
abbrev pub invariant-loop-next : goal.invariant-loop-next
invariant-loop-next l =
    fold (with_edge l.p) l.odd (segments_from l.last (map (on_grid l.grid) (drop l.next-index l.rest)))
    ≡ fold (with_edge l.p) l.fn.before (segments_from l.fn.first (map (on_grid l.grid) l.rest))
