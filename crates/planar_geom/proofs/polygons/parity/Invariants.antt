use Rattle.std.proofs.Common.{◌≡◌, drop, false}
use Rattle.std.specs.Prelude.{fold, map, Some}
use Rattle.planar_geom.specs.Figures.{edges}
use Rattle.planar_geom.specs.Standings.{on_grid, with_edge}
use Rattle.planar_geom.proofs.polygons.parity.Given as goal

-- what is left to do makes the whole
abbrev pub invariant-loop-ring : goal.invariant-loop-ring
invariant-loop-ring l =
    fold (with_edge l.p) l.odd (edges (map (map (on_grid l.grid)) (drop l.ring-index l.rings)))
    ≡ fold (with_edge l.p) (Some false) (edges (map (map (on_grid l.grid)) l.rings))
