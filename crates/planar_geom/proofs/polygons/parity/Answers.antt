use Rattle.std.proofs.Common.{◌≡◌, ◌∙◌, drop, []}
use Rattle.std.proofs.Math.ListN.{drop_of_length-le}
use Rattle.std.specs.Prelude.{map}
use Rattle.planar_geom.specs.Figures.{edges}
use Rattle.planar_geom.specs.Standings.{on_grid}
use Rattle.planar_geom.proofs.ParityLemmas.{fold-parity}
use Rattle.planar_geom.proofs.polygons.parity.Goals as goal

pub returns : goal.returns
returns c =
    let done : drop c.loop-ring.ring-index c.args.rings.now ≡ [] = drop_of_length-le c.args.rings.now c.loop-ring-test.false in
    (rw done at c.loop-ring.invariant) ∙ fold-parity c.args.p (edges (map (map (on_grid c.args.grid)) c.args.rings.now))
