use Rattle.std.proofs.Common.{◌≡◌, ◌∙◌, refl, sym, ap, false}
use Rattle.std.specs.Prelude.{◌&&◌}
use Rattle.planar_geom.specs.Points.{in_box}
use Rattle.planar_geom.specs.Figures.{ring_points}
use Rattle.planar_geom.specs.Shapes.{vertices, box_of_points}
use Rattle.planar_geom.specs.Relations.{lies_in}
use Rattle.planar_geom.proofs.TouchLaws.{outside-lies}
use Rattle.planar_geom.proofs.relations.lies_in.Goals as goal

pub returns-then-not-holds_box : goal.returns-then-not-holds_box
returns-then-not-holds_box c =
    let part = c.args.part.now in
    let rings = c.args.poly.now in
    let box = box_of_points (vertices part) in
    let around = box_of_points (ring_points rings) in
    let outside : (in_box around box.min && in_box around box.max) ≡ false = sym (c.holds_box.ensures ∙ rw (c.bounds.ensures.value, c.box_of_part.ensures.value) refl) ∙ c.if-not-holds_box.true in
    sym (outside-lies part rings c.box_of_part.ensures.is_part c.bounds.ensures.is_poly outside)

pub returns : goal.returns
returns c = c.lies_in_rings.ensures ∙ ap (lies_in c.args.part.now) (c.as_slice.ensures ∙ c.rings.ensures.value)
