use Rattle.std.proofs.Common.{◌∙◌, refl, sym, ap, false, [], ◌∷◌}
use Rattle.std.specs.List.{list_any}
use Rattle.planar_geom.specs.Points.{boxes_meet}
use Rattle.planar_geom.specs.Shapes.{box_of}
use Rattle.planar_geom.specs.Relations.{touch, face_of}
use Rattle.planar_geom.proofs.BoolLemmas.{and-first, and-second}
use Rattle.planar_geom.proofs.RelationLemmas.{face_met, any-single}
use Rattle.planar_geom.proofs.relations.meets_box.Goals as goal

pub returns-then-not-meets : goal.returns-then-not-meets
returns-then-not-meets c =
    let shape = c.args.shape.now in
    let face = face_of c.args.b in
    and-first (boxes_meet (box_of shape) (box_of (face ∷ []))) (list_any (λ p. list_any (touch p) (face ∷ [])) shape) false (face_met (box_of shape) c.args.b c.meets.result c.meets.ensures.is_box (c.meets.ensures.value ∙ ap (λ b. boxes_meet b c.args.b) c.box_of.ensures) ∙ c.if-not-meets.true) refl

pub returns : goal.returns
returns c =
    let shape = c.args.shape.now in
    let face = face_of c.args.b in
    and-second (boxes_meet (box_of shape) (box_of (face ∷ []))) (list_any (λ p. list_any (touch p) (face ∷ [])) shape) c.any_touches_box.result (face_met (box_of shape) c.args.b c.meets.result c.meets.ensures.is_box (c.meets.ensures.value ∙ ap (λ b. boxes_meet b c.args.b) c.box_of.ensures) ∙ c.if-not-meets.false) (c.any_touches_box.ensures ∙ ap (list_any (λ p. touch p face)) c.parts.ensures.value ∙ sym (any-single touch face shape))
