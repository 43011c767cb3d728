use Rattle.std.proofs.Common.{rules, ◌≡◌, true, ◌∙◌}
use Rattle.std.specs.Prelude.{Some}
use Rattle.std.specs.List.{list_all}
use Rattle.planar_geom.specs.Shapes.{all_vertices, positions, is_part, box_of, count_within}
use Rattle.planar_geom.specs.declared.shapes.TheConstants.{MAX_POSITIONS}
use Rattle.planar_geom.proofs.PointLemmas.{grown-box}
use Rattle.planar_geom.proofs.SizeLaws.{counted, sized}
use Rattle.planar_geom.proofs.shapes.Shape.of.Goals as goal

pub invariant_of-result : goal.invariant_of-result
invariant_of-result c =
    let parts = c.args.parts in
    let found : Some c.in-Some.count ≡ count_within MAX_POSITIONS (positions parts) = search rules in
    let count = counted MAX_POSITIONS (positions parts) c.in-Some.count found in
    let whole : list_all is_part parts ≡ true = search rules in
    let box : c.unwrap_or.result ≡ box_of parts = c.unwrap_or.ensures ∙ rw (c.bounds.ensures, c.origin.ensures) (grown-box (all_vertices parts)) in
    (sized parts (search rules) count.1 whole, box, count.0)
