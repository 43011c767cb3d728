use Rattle.std.proofs.Common.{◌∙◌}
use Rattle.planar_geom.proofs.ParityLemmas.{unwrap_or-parity, map-map-whole}
use Rattle.planar_geom.proofs.polygons.in_rings.Goals as goal

pub returns : goal.returns
returns c =
    c.unwrap_or.ensures ∙ rw (c.parity.ensures, c.of.ensures, map-map-whole c.args.rings.now) (unwrap_or-parity c.args.rings.now c.args.p)
