-- The objects whose box meets an area's box, among which all are that meet the area.
use Rattle.std.proofs.Common.{◌≡◌, ◌≤◌, ℕ, ◌*◌, Bool, true, false, refl, sym, ap, ◌∙◌, List, [], ◌∷◌, All, true≢false, arith}
use Rattle.std.specs.Prelude.{filter, nat_le, ◌&&◌}
use Rattle.std.proofs.lemmas.Bool.Decides.{nat_tests}
use Rattle.std.proofs.lemmas.List.Elements.{All-head, All-tail}
use Rattle.ordered_lists.specs.Reading.{both_of}
use Rattle.planar_geom.specs.Nearness.{IsWholeShape, MetIsNear}
use Rattle.planar_geom.specs.Points.{boxes_meet, box_dist2}
use Rattle.planar_geom.specs.Relations.{area_box, IsArea}
use Rattle.planar_geom.specs.Shapes.{box_of}
use Rattle.planar_geom.specs.declared.shapes.Area.{Area}
use Rattle.planar_geom.specs.declared.shapes.Area.TheVariants.{Rect, Disc, Figure}
use Rattle.planar_geom.specs.declared.shapes.Part.{Part}
use Rattle.world_data.specs.Filters.{meets_glob, passes}
use Rattle.world_data.specs.declared.channels.Kind.{Kind}
use Rattle.world_data.specs.declared.channels.Kind.TheVariants.{Within, Intersects, Near}
use Rattle.world_data.specs.declared.objects.Object.{Object}
use Rattle.world_data.specs.declared.queries.Query.{Query}
use Rattle.world_data.specs.declared.queries.Rule.{Rule}
use Rattle.world_data.specs.declared.queries.Rule.TheVariants.{InArea}
use Rattle.fence_model.specs.Queries.{in_order, matches, meets_area, meets_query, meets_rule}
use Rattle.collection.specs.Meeting.{meets_box}

le_of : (a b : ℕ) → nat_le a b ≡ true → a ≤ b
le_of a b e = grind (arith, nat_tests)

-- what meets an area has a box that meets the area's box
in_area : MetIsNear → (kind : Kind) (a : Area) (shape : List Part) → IsWholeShape shape → IsArea a → meets_area kind a shape ≡ true → boxes_meet (box_of shape) (area_box a) ≡ true
in_area near Within a shape s w e = near.inside shape a s w e
in_area near Intersects a shape s w e = near.met shape a s w e
in_area near Near (Disc c r) shape s w e = near.box_near (box_of shape) c r s.is_box (le_of (box_dist2 c (box_of shape)) (r * r) e)
in_area near Near (Rect b) shape s w e = absurd (true≢false (sym e))
in_area near Near (Figure f) shape s w e = absurd (true≢false (sym e))

module _ (near : MetIsNear) (q : Query) (kind : Kind) (a : Area) (w : IsArea a) (rule : q.rule ≡ InArea kind a) where
  met : (o : Object) → IsWholeShape o.shape → meets_query q o ≡ true → meets_box (area_box a) o ≡ true
  met o s e =
      let b = both_of (meets_glob q.glob o.id && passes q.tests o.fields) (meets_rule q.rule o) e in
      in_area near kind a o.shape s w (sym (ap (λ (r : Rule). meets_rule r o) rule) ∙ b.1)

  -- none is missed among those whose box meets the area's
  none_missed : (objects : List Object) → All (λ o. IsWholeShape o.shape) objects → filter (meets_query q) (filter (meets_box (area_box a)) objects) ≡ filter (meets_query q) objects
  none_missed [] all = refl
  none_missed (o ∷ objects) all =
      let ih = none_missed objects (All-tail (λ o. IsWholeShape o.shape) o objects all) in
      let here = met o (All-head (λ o. IsWholeShape o.shape) o objects all) in
      by_box (meets_box (area_box a) o) refl (meets_query q o) refl ih here
    where
      by_box : (b : Bool) → meets_box (area_box a) o ≡ b → (m : Bool) → meets_query q o ≡ m → filter (meets_query q) (filter (meets_box (area_box a)) objects) ≡ filter (meets_query q) objects → (meets_query q o ≡ true → meets_box (area_box a) o ≡ true)
          → filter (meets_query q) (filter (meets_box (area_box a)) (o ∷ objects)) ≡ filter (meets_query q) (o ∷ objects)
      by_box true e true f ih here = rw (e, f) (ap (λ (l : List Object). o ∷ l) ih)
      by_box true e false f ih here = rw (e, f) ih
      by_box false e true f ih here = absurd (true≢false (sym (here f) ∙ e))
      by_box false e false f ih here = rw (e, f) ih

  pub met_all : (objects : List Object) → All (λ o. IsWholeShape o.shape) objects → filter (meets_query q) (filter (meets_box (area_box a)) objects) ≡ matches q objects
  met_all objects all = none_missed objects all ∙ sym (ap (λ (r : Rule). in_order r (filter (meets_query q) objects)) rule)
