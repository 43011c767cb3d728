use Rattle.std.proofs.Common.{◌∙◌, sym, ap}
use Rattle.std.specs.Prelude.{not}
use Rattle.std.specs.List.{list_all}
use Rattle.planar_geom.specs.Figures.{strictly_in, ring_points}
use Rattle.planar_geom.specs.Relations.{no_hole_inside}
use Rattle.planar_geom.proofs.RelationLemmas.{not-any-not}
use Rattle.planar_geom.proofs.relations.goes_round_nothing.Goals as goal

pub returns-in-Face : goal.returns-in-Face
returns-in-Face c =
    let points = ring_points c.args.rings.now in
    ap not c.any_ring_point.ensures
    ∙ not-any-not (strictly_in c.as_slice.result.now) points
    ∙ ap (λ own. list_all (λ v. not (strictly_in own v)) points) (c.as_slice.ensures ∙ c.rings.ensures.value)
    ∙ ap (no_hole_inside c.args.rings.now) (sym c.in-Face.is)
