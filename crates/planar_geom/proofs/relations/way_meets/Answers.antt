use Rattle.std.proofs.Common.{◌≡◌, ◌∙◌, sym, ap, refl, Bool, List, [], ◌∷◌}
use Rattle.std.specs.List.{list_any}
use Rattle.planar_geom.specs.Points.{Bounds, boxes_meet}
use Rattle.planar_geom.specs.Shapes.{box_of}
use Rattle.planar_geom.specs.Relations.{intersects, way_meets, touch, face_of, reaches_disc}
use Rattle.planar_geom.specs.declared.shapes.Part.{Part}
use Rattle.planar_geom.specs.declared.shapes.Part.TheVariants.{Chain}
use Rattle.planar_geom.proofs.BoolLemmas.{and-first, and-second}
use Rattle.planar_geom.proofs.RelationLemmas.{any-reaches, face_met, only_one, or-false}
use Rattle.planar_geom.proofs.relations.way_meets.Goals as goal

-- what the code's boxes tell of the definition's
boxes : (way : Bounds) (other : List Part) (a b : Bounds) (met : Bool) → a ≡ way → b ≡ box_of other → met ≡ boxes_meet a b → boxes_meet way (box_of other) ≡ met
boxes way other a b met a_is b_is met_is = sym (met_is ∙ rw (a_is, b_is) refl)

pub returns-then-meets : goal.returns-then-meets
unfolding intersects
returns-then-meets c =
    let chain = Chain (c.args.from ∷ c.args.to ∷ []) in
    let face = face_of c.in-Rect.b in
    and-second (boxes_meet (box_of (chain ∷ [])) (box_of (face ∷ []))) (list_any (λ p. list_any (touch p) (face ∷ [])) (chain ∷ [])) c.touches.result (face_met (box_of (chain ∷ [])) c.in-Rect.b c.meets.result c.meets.ensures.is_box (c.meets.ensures.value ∙ ap (λ box. boxes_meet box c.in-Rect.b) c.bounds.ensures) ∙ c.if-meets.true) (c.touches.ensures ∙ only_one (touch chain face))
    ∙ ap (way_meets c.args.from c.args.to) (sym c.in-Rect.is)

pub returns-else-meets : goal.returns-else-meets
unfolding intersects
returns-else-meets c =
    let chain = Chain (c.args.from ∷ c.args.to ∷ []) in
    let face = face_of c.in-Rect.b in
    and-first (boxes_meet (box_of (chain ∷ [])) (box_of (face ∷ []))) (list_any (λ p. list_any (touch p) (face ∷ [])) (chain ∷ [])) c.meets.result (face_met (box_of (chain ∷ [])) c.in-Rect.b c.meets.result c.meets.ensures.is_box (c.meets.ensures.value ∙ ap (λ box. boxes_meet box c.in-Rect.b) c.bounds.ensures) ∙ c.if-meets.false) c.if-meets.false
    ∙ ap (way_meets c.args.from c.args.to) (sym c.in-Rect.is)

pub returns-in-Disc : goal.returns-in-Disc
unfolding intersects
returns-in-Disc c =
    let chain = Chain (c.args.from ∷ c.args.to ∷ []) in
    c.reaches.ensures
    ∙ ap (λ centre. reaches_disc chain centre c.of.result.radius) c.of.ensures.centre_is
    ∙ ap (λ radius. reaches_disc chain c.in-Disc.centre radius) c.of.ensures.radius_is
    ∙ sym (or-false (reaches_disc chain c.in-Disc.centre c.in-Disc.radius))
    ∙ any-reaches c.in-Disc.centre c.in-Disc.radius (chain ∷ [])
    ∙ ap (way_meets c.args.from c.args.to) (sym c.in-Disc.is)

pub returns-then-meets-2 : goal.returns-then-meets-2
unfolding intersects
returns-then-meets-2 c =
    let chain = Chain (c.args.from ∷ c.args.to ∷ []) in
    let other = c.in-Figure.other in
    and-second (boxes_meet (box_of (chain ∷ [])) (box_of other)) (list_any (λ p. list_any (touch p) other) (chain ∷ [])) c.touches_any.result (boxes (box_of (chain ∷ [])) other c.bounds-in-Figure.result c.box_of.result c.meets-in-Figure.result c.bounds-in-Figure.ensures c.box_of.ensures c.meets-in-Figure.ensures.value ∙ c.if-meets-2.true) (c.touches_any.ensures ∙ ap (list_any (touch chain)) c.parts.ensures.value ∙ sym (or-false (list_any (touch chain) other)))
    ∙ ap (way_meets c.args.from c.args.to) (sym c.in-Figure.is)

pub returns-else-meets-2 : goal.returns-else-meets-2
unfolding intersects
returns-else-meets-2 c =
    let chain = Chain (c.args.from ∷ c.args.to ∷ []) in
    let other = c.in-Figure.other in
    and-first (boxes_meet (box_of (chain ∷ [])) (box_of other)) (list_any (λ p. list_any (touch p) other) (chain ∷ [])) c.meets-in-Figure.result (boxes (box_of (chain ∷ [])) other c.bounds-in-Figure.result c.box_of.result c.meets-in-Figure.result c.bounds-in-Figure.ensures c.box_of.ensures c.meets-in-Figure.ensures.value ∙ c.if-meets-2.false) c.if-meets-2.false
    ∙ ap (way_meets c.args.from c.args.to) (sym c.in-Figure.is)
