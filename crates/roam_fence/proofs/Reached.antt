-- Who is near, or was, stands in the box that is searched; of all others nothing is told.
use Rattle.std.proofs.Common.{◌≡◌, ◌≤◌, ◌*◌, ℕ, Bool, true, false, refl, sym, ap, ◌∙◌, List, [], ◌∷◌, ◌++◌, All, true≢false, arith}
use Rattle.std.specs.Prelude.{Option, Some, None, option_map, filter, nat_le, if◌then◌else◌}
use Rattle.std.proofs.lemmas.Bool.Decides.{nat_tests}
use Rattle.std.proofs.lemmas.List.Elements.{All-head, All-tail}
use Rattle.byte_text.specs.Names.{Bytes}
use Rattle.planar_geom.specs.Nearness.{IsWholeShape, MetIsNear}
use Rattle.planar_geom.specs.Points.{Bounds, IsBox, boxes_meet, box_of_disc, box_round_both, dist2}
use Rattle.planar_geom.specs.Shapes.{box_of}
use Rattle.world_data.specs.declared.objects.Object.{Object}
use Rattle.fence_model.specs.Fences.{is_near, place_of, roamed, was_near}
use Rattle.collection.specs.Meeting.{meets_box}
use Rattle.roam_fence.specs.Pairs.{is_near_now, is_target, noted, told, told_of_all}
use Rattle.roam_fence.specs.Reaches.{HoldsNear}

le_of : (a b : ℕ) → nat_le a b ≡ true → a ≤ b
le_of a b e = grind (arith, nat_tests)

module _ (near : MetIsNear) (meters : ℕ) where
  abbrev pub reach : Object → Bounds
  reach o = box_of_disc (place_of o) meters

  meets_reach : (o t : Object) → IsWholeShape t.shape → is_near meters o t ≡ true → boxes_meet (box_of t.shape) (reach o) ≡ true
  meets_reach o t s e = near.centre_near (box_of t.shape) (place_of o) meters s.is_box (le_of (dist2 (place_of o) (place_of t)) (meters * meters) e)

  -- of a new object
  pub holds_one : (new : Object) → HoldsNear meters None new (reach new)
  holds_one new = record { now = meets_reach new; before = λ t s e. absurd (true≢false (sym e)) }

  -- of one that has moved
  pub holds_both : (old new : Object) → IsBox (reach old) → HoldsNear meters (Some old) new (box_round_both (reach new) (reach old))
  holds_both old new is = record {
    now = λ t s e. near.either_order (box_of t.shape) (box_round_both (reach new) (reach old)) ∙ near.meets_first (reach new) (reach old) (box_of t.shape) (near.either_order (reach new) (box_of t.shape) ∙ meets_reach new t s e);
    before = λ t s e. near.either_order (box_of t.shape) (box_round_both (reach new) (reach old)) ∙ near.meets_second (reach new) (reach old) (box_of t.shape) is (near.either_order (reach old) (box_of t.shape) ∙ meets_reach old t s e);
  }

module _ (pattern : Bytes) (meters : ℕ) (nodwell : Bool) (old : Option Object) (new : Object) (b : Bounds) (holds : HoldsNear meters old new b) where
  nothing : (t : Object) (target before now : Bool) → before ≡ false → now ≡ false → noted t (if target then option_map is_near_now (roamed nodwell before now) else None) ≡ []
  nothing t true before now e f = rw (e, f) refl
  nothing t false before now e f = refl

  far : (c d : Bool) → (c ≡ true → d ≡ true) → d ≡ false → c ≡ false
  far true d h e = absurd (true≢false (sym (h refl) ∙ e))
  far false d h e = refl

  -- those alone are told of whose box meets
  pub told_near : (objects : List Object) → All (λ o. IsWholeShape o.shape) objects → told_of_all pattern meters nodwell old new (filter (meets_box b) objects) ≡ told_of_all pattern meters nodwell old new objects
  told_near [] all = refl
  told_near (t ∷ objects) all = by_box (meets_box b t) refl (told_near objects (All-tail (λ o. IsWholeShape o.shape) t objects all))
    where
      whole : IsWholeShape t.shape
      whole = All-head (λ o. IsWholeShape o.shape) t objects all

      by_box : (m : Bool) → meets_box b t ≡ m → told_of_all pattern meters nodwell old new (filter (meets_box b) objects) ≡ told_of_all pattern meters nodwell old new objects
          → told_of_all pattern meters nodwell old new (filter (meets_box b) (t ∷ objects)) ≡ told_of_all pattern meters nodwell old new (t ∷ objects)
      by_box true e ih = rw e (ap (λ l. noted t (told pattern meters nodwell old new t) ++ l) ih)
      by_box false e ih =
          let silent = nothing t (is_target pattern new t) (was_near meters old t) (is_near meters new t)
          (far (was_near meters old t) (meets_box b t) (holds.before t whole) e) (far (is_near meters new t) (meets_box b t) (holds.now t whole) e) in
          rw e (ih ∙ ap (λ l. l ++ told_of_all pattern meters nodwell old new objects) (sym silent))
