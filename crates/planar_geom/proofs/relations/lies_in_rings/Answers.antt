use Rattle.std.proofs.Common.{◌∙◌, sym, ap}
use Rattle.std.specs.Prelude.{not, map}
use Rattle.std.specs.List.{list_all}
use Rattle.planar_geom.specs.Figures.{in_poly, edges, crosses, doubled, doubled_middle}
use Rattle.planar_geom.specs.Shapes.{vertices, segments}
use Rattle.planar_geom.specs.Relations.{no_hole_inside}
use Rattle.planar_geom.proofs.BoolLemmas.{four-first, four-middle, four-last}
use Rattle.planar_geom.proofs.RelationLemmas.{not-any, no_segment_leaves}
use Rattle.planar_geom.proofs.relations.lies_in_rings.Goals as goal

pub returns-then-any_vertex : goal.returns-then-any_vertex
returns-then-any_vertex c =
    let rings = c.args.rings.now in
    let part = c.args.part.now in
    four-first (list_all (in_poly rings) (vertices part)) (list_all (λ s. in_poly (map (map doubled) rings) (doubled_middle s)) (segments part)) (list_all (λ s. list_all (λ t. not (crosses s t)) (edges rings)) (segments part)) (no_hole_inside rings part) (sym (not-any (in_poly rings) (vertices part)) ∙ ap not (sym c.any_vertex.ensures ∙ c.if-any_vertex.true))

pub returns-then-any_segment : goal.returns-then-any_segment
returns-then-any_segment c =
    let rings = c.args.rings.now in
    let part = c.args.part.now in
    four-middle (list_all (in_poly rings) (vertices part)) (list_all (λ s. in_poly (map (map doubled) rings) (doubled_middle s)) (segments part)) (list_all (λ s. list_all (λ t. not (crosses s t)) (edges rings)) (segments part)) (no_hole_inside rings part) (sym (not-any (in_poly rings) (vertices part)) ∙ ap not (sym c.any_vertex.ensures ∙ c.if-any_vertex.false)) (sym (no_segment_leaves rings (segments part)) ∙ ap not (sym c.any_segment.ensures ∙ c.if-any_segment.true))

pub returns : goal.returns
returns c =
    let rings = c.args.rings.now in
    let part = c.args.part.now in
    four-last (list_all (in_poly rings) (vertices part)) (list_all (λ s. in_poly (map (map doubled) rings) (doubled_middle s)) (segments part)) (list_all (λ s. list_all (λ t. not (crosses s t)) (edges rings)) (segments part)) (no_hole_inside rings part) c.goes_round_nothing.result (sym (not-any (in_poly rings) (vertices part)) ∙ ap not (sym c.any_vertex.ensures ∙ c.if-any_vertex.false)) (sym (no_segment_leaves rings (segments part)) ∙ ap not (sym c.any_segment.ensures ∙ c.if-any_segment.false)) c.goes_round_nothing.ensures
