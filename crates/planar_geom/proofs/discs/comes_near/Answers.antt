use Rattle.std.proofs.Common.{◌∙◌, sym, ap}
use Rattle.planar_geom.specs.Figures.{minus}
use Rattle.planar_geom.specs.Relations.{comes_near, segment_near}
use Rattle.planar_geom.proofs.DiscLemmas.{comes_near-first, comes_near-second}
use Rattle.planar_geom.proofs.discs.comes_near.Goals as goal

pub returns-then-has_foot : goal.returns-then-has_foot
returns-then-has_foot c =
    let centre = c.args.disc.now.centre in
    let radius = c.args.disc.now.radius in
    comes_near-second c.between-to_centre.result c.between-along.result radius c.has_near_foot.result (sym c.has_foot.ensures ∙ c.if-has_foot.true) c.has_near_foot.ensures
    ∙ ap (λ e. comes_near e radius c.between-along.result) c.between-to_centre.ensures
    ∙ ap (λ d. comes_near (minus centre c.s.inside.a) radius d) c.between-along.ensures
    ∙ ap (λ s. segment_near centre radius s) c.s.view_is

pub returns-else-has_foot : goal.returns-else-has_foot
returns-else-has_foot c =
    let centre = c.args.disc.now.centre in
    let radius = c.args.disc.now.radius in
    comes_near-first c.between-to_centre.result c.between-along.result radius c.has_foot.result (sym c.has_foot.ensures ∙ c.if-has_foot.false) c.if-has_foot.false
    ∙ ap (λ e. comes_near e radius c.between-along.result) c.between-to_centre.ensures
    ∙ ap (λ d. comes_near (minus centre c.s.inside.a) radius d) c.between-along.ensures
    ∙ ap (λ s. segment_near centre radius s) c.s.view_is
