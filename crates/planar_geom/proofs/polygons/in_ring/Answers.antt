use Rattle.std.proofs.Common.{◌∙◌, [], ◌∷◌}
use Rattle.planar_geom.proofs.ParityLemmas.{fold-ring, unwrap_or-parity}
use Rattle.planar_geom.proofs.polygons.in_ring.Goals as goal

pub returns : goal.returns
returns c =
    c.unwrap_or.ensures ∙ rw (c.past_ring.ensures, c.of.ensures, fold-ring c.args.p c.args.ring.now) (unwrap_or-parity (c.args.ring.now ∷ []) c.args.p)
