use Rattle.std.proofs.Common.{◌≡◌, sym, subst, true}
use Rattle.planar_geom.specs.Points.{Point, boxes_meet, centre}
use Rattle.planar_geom.specs.Figures.{segment, box_of_segment}
use Rattle.planar_geom.specs.Relations.{way_meets, area_box}
use Rattle.planar_geom.proofs.BoxLaws.{both-meet, centre-inside}
use Rattle.planar_geom.proofs.laws.way_stays_in_both_boxes.Goals as goal

pub returns : goal.returns
returns c = λ met.
    let area = c.args.area.now in
    let from_ends : way_meets c.centre.result c.centre-2.result area ≡ true = subst (λ (p : Point). way_meets p c.centre-2.result area ≡ true) (sym c.centre.ensures) (subst (λ (q : Point). way_meets (centre c.args.old) q area ≡ true) (sym c.centre-2.ensures) met) in
    let boxes : boxes_meet (box_of_segment (segment (centre c.args.old) (centre c.args.new))) (area_box area) ≡ true = subst (λ (p : Point). boxes_meet (box_of_segment (segment p (centre c.args.new))) (area_box area) ≡ true) c.centre.ensures (subst (λ (q : Point). boxes_meet (box_of_segment (segment c.centre.result q)) (area_box area) ≡ true) c.centre-2.ensures (c.way_stays_in_box.ensures.area from_ends)) in
    both-meet c.args.old c.args.new (area_box area) (centre c.args.old) (centre c.args.new) (centre-inside c.args.old c.min-low.ensures.is_box) (centre-inside c.args.new c.min-other_low.ensures.is_box) c.min-other_low.ensures.is_box boxes
