use Rattle.std.proofs.Common.{rules, ◌<◌, length, ◌∙◌}
use Rattle.planar_geom.proofs.ChainLemmas.{closed-ends}
use Rattle.planar_geom.proofs.lists.is_closed.Goals as goal

pub returns-then-not-is_empty : goal.returns-then-not-is_empty
returns-then-not-is_empty c =
    let some : 0 < length c.args.points.now = search rules in
    c.is_at.ensures ∙ closed-ends c.args.points.now c.index-points-0.result c.index-points-points.result some c.index-points-0.is c.index-points-points.is
