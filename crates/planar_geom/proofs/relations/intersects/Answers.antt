use Rattle.std.proofs.Common.{◌∙◌, sym, ap}
use Rattle.std.specs.List.{list_any}
use Rattle.planar_geom.specs.Relations.{intersects, reaches_disc}
use Rattle.planar_geom.proofs.RelationLemmas.{any-reaches}
use Rattle.planar_geom.proofs.relations.intersects.Goals as goal

pub returns-in-Rect : goal.returns-in-Rect
unfolding intersects
returns-in-Rect c = c.meets_box.ensures ∙ ap (intersects c.args.shape.now) (sym c.in-Rect.is)

pub returns-in-Disc : goal.returns-in-Disc
unfolding intersects
returns-in-Disc c =
    c.any_reaches.ensures
    ∙ ap (list_any (λ part. reaches_disc part c.of.result.centre c.of.result.radius)) c.parts.ensures.value
    ∙ ap (λ centre. list_any (λ part. reaches_disc part centre c.of.result.radius) c.args.shape.now) c.of.ensures.centre_is
    ∙ ap (λ radius. list_any (λ part. reaches_disc part c.in-Disc.centre radius) c.args.shape.now) c.of.ensures.radius_is
    ∙ any-reaches c.in-Disc.centre c.in-Disc.radius c.args.shape.now
    ∙ ap (intersects c.args.shape.now) (sym c.in-Disc.is)

pub returns-in-Figure : goal.returns-in-Figure
unfolding intersects
returns-in-Figure c = c.meets_shape.ensures ∙ ap (intersects c.args.shape.now) (sym c.in-Figure.is)
