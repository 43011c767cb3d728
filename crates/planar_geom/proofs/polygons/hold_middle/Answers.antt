use Rattle.std.proofs.Common.{◌∙◌}
use Rattle.std.specs.Prelude.{map}
use Rattle.planar_geom.specs.Figures.{doubled, doubled_middle}
use Rattle.planar_geom.proofs.ParityLemmas.{unwrap_or-parity}
use Rattle.planar_geom.proofs.polygons.hold_middle.Goals as goal

pub returns : goal.returns
returns c =
    c.unwrap_or.ensures ∙ rw (c.parity.ensures, c.middle.ensures) (unwrap_or-parity (map (map doubled) c.args.rings.now) (doubled_middle c.args.s))
