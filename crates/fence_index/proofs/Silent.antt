-- A whole channel that a put or a del does not concern raises nothing.
use Rattle.std.proofs.Common.{◌≡◌, ◌≤◌, ◌*◌, ℕ, Bool, true, false, true≢false, refl, sym, ◌∙◌, List, [], ◌∷◌, map, arith}
use Rattle.std.specs.Prelude.{Option, Some, None, filter, is_none, nat_le, ◌&&◌, ◌||◌, if◌then◌else◌}
use Rattle.std.proofs.lemmas.Bool.Decides.{nat_tests}
use Rattle.byte_text.specs.Names.{Bytes}
use Rattle.planar_geom.specs.Points.{Bounds, box_dist2, box_round_both, boxes_meet}
use Rattle.planar_geom.specs.Shapes.{box_of}
use Rattle.planar_geom.specs.Relations.{IsArea, area_box}
use Rattle.planar_geom.specs.Nearness.{IsWholeShape, MetIsNear}
use Rattle.planar_geom.specs.declared.shapes.Part.{Part}
use Rattle.planar_geom.specs.declared.shapes.Area.{Area}
use Rattle.planar_geom.specs.declared.shapes.Area.TheVariants.{Rect, Disc, Figure}
use Rattle.world_data.specs.Worlds.{object_at}
use Rattle.world_data.specs.declared.channels.Channel.{Channel}
use Rattle.world_data.specs.declared.channels.Detect.TheVariants.{Outside}
use Rattle.world_data.specs.declared.channels.Kind.{Kind}
use Rattle.world_data.specs.declared.channels.Kind.TheVariants.{Within, Intersects, Near}
use Rattle.world_data.specs.declared.channels.Wanted.{Wanted}
use Rattle.world_data.specs.declared.channels.Watch.{Watch}
use Rattle.world_data.specs.declared.channels.Watch.TheVariants.{Zone, Roam}
use Rattle.world_data.specs.declared.objects.Object.{Object}
use Rattle.world_data.specs.declared.worlds.World.{World}
use Rattle.world_data.specs.declared.worlds.Change.TheVariants.{Put, Del}
use Rattle.fence_model.specs.Queries.{meets_area}
use Rattle.fence_model.specs.Fences.{crosses_watch, detected, in_watch, is_in_fence, meets_fence, raised_by_del, raised_by_put, roams_over, wants_detect, was_in}
use Rattle.fence_model.specs.Messages.{payloads, set_payload}
use Rattle.fence_index.specs.Marks.{mark_of, watched_box}
use Rattle.fence_index.specs.Candidates.{both_meet, box_if, is_concerned, round_of}
use Rattle.fence_index.specs.Silence.{IfWhole, IsWholeWatch, UnconcernedAreSilent}

le_from : (a b : ℕ) → nat_le a b ≡ true → a ≤ b
le_from a b e = grind (arith, nat_tests)

and_off : (a b : Bool) → b ≡ false → (a && b) ≡ false
and_off a b e = grind arith

-- what keeps a put from concerning a channel

record Apart (roams outside meets : Bool) : Type 0 where
  still : roams ≡ false
  inward : outside ≡ false
  away : meets ≡ false

apart : (x y z : Bool) → ((true && (x || y)) || z) ≡ false → Apart x y z
apart x y z e = record { still = grind arith; inward = grind arith; away = grind arith }

stands_still : (watch : Watch) → is_none (watched_box watch) ≡ false → roams_over watch ≡ None
stands_still (Zone kind a) e = refl
stands_still (Roam key pattern meters nodwell) e = absurd (true≢false e)

-- detections where the object was not in, is not in, and does not cross

outside_off : (w : Wanted) → w.outside ≡ false → filter (wants_detect w) (Outside ∷ []) ≡ []
outside_off w o = rw o refl

detects_off : (w : Wanted) (set was is meets way : Bool) → was ≡ false → is ≡ false → way ≡ false → w.outside ≡ false → (if set then filter (wants_detect w) (detected was is meets way) else []) ≡ []
detects_off w false was is meets way p q r o = refl
detects_off w true true is meets way p q r o = absurd (true≢false p)
detects_off w true false true meets way p q r o = absurd (true≢false q)
detects_off w true false false true true p q r o = absurd (true≢false r)
detects_off w true false false true false p q r o = outside_off w o
detects_off w true false false false way p q r o = refl

module _ (near : MetIsNear) where
  in_area : (kind : Kind) (a : Area) (shape : List Part) → IsWholeShape shape → IsArea a → meets_area kind a shape ≡ true → boxes_meet (box_of shape) (area_box a) ≡ true
  in_area Within a shape s w e = near.inside shape a s w e
  in_area Intersects a shape s w e = near.met shape a s w e
  in_area Near (Disc c r) shape s w e = near.box_near (box_of shape) c r s.is_box (le_from (box_dist2 c (box_of shape)) (r * r) e)
  in_area Near (Rect b) shape s w e = absurd (true≢false (sym e))
  in_area Near (Figure f) shape s w e = absurd (true≢false (sym e))

  -- an object whose box is within one that is apart from the area's is not in the area
  watched_off : (watch : Watch) (o : Object) (b : Bounds) → IsWholeWatch watch → IsWholeShape o.shape → ((d : Bounds) → boxes_meet (box_of o.shape) d ≡ true → boxes_meet b d ≡ true)
      → both_meet (Some b) (watched_box watch) ≡ false → in_watch watch o ≡ false
  watched_off (Roam key pattern meters nodwell) o b w s wider off = refl
  watched_off (Zone kind a) o b w s wider off = by_test (meets_area kind a o.shape) refl
    where
      by_test : (t : Bool) → meets_area kind a o.shape ≡ t → meets_area kind a o.shape ≡ false
      by_test true e = absurd (true≢false (sym (wider (area_box a) (in_area kind a o.shape s w e)) ∙ off))
      by_test false e = e

  way_off : (watch : Watch) (old new : Object) → IsWholeWatch watch → IsWholeShape old.shape → IsWholeShape new.shape
      → both_meet (Some (box_round_both (box_of old.shape) (box_of new.shape))) (watched_box watch) ≡ false → crosses_watch watch old new ≡ false
  way_off (Roam key pattern meters nodwell) old new w s t off = refl
  way_off (Zone kind a) old new w s t off = by_test (crosses_watch (Zone kind a) old new) refl
    where
      by_test : (b : Bool) → crosses_watch (Zone kind a) old new ≡ b → crosses_watch (Zone kind a) old new ≡ false
      by_test true e = absurd (true≢false (sym (near.way (box_of old.shape) (box_of new.shape) a s.is_box t.is_box w e) ∙ off))
      by_test false e = e

  raised_off : (c : Channel) (old : Option Object) (new : Object) → IsWholeWatch c.fence.watch → IfWhole old → IsWholeShape new.shape
      → Apart (is_none (watched_box c.fence.watch)) c.fence.wanted.outside (both_meet (round_of (box_if old) (box_if (Some new))) (watched_box c.fence.watch)) → raised_by_put c.fence old new ≡ []
  raised_off c None new w s t p =
      let f = c.fence in
      let is = watched_off f.watch new (box_of new.shape) w t (λ d e. e) p.away in
      detects_off f.wanted f.wanted.set false (is_in_fence f new) (meets_fence f new) false refl (and_off (meets_fence f new) (in_watch f.watch new) is) refl p.inward
  raised_off c (Some old) new w s t p =
      let f = c.fence in
      let round = box_round_both (box_of old.shape) (box_of new.shape) in
      let was = watched_off f.watch old round w s (λ d e. near.meets_first (box_of old.shape) (box_of new.shape) d e) p.away in
      let is = watched_off f.watch new round w t (λ d e. near.meets_second (box_of old.shape) (box_of new.shape) d t.is_box e) p.away in
      let way = way_off f.watch old new w s t p.away in
      detects_off f.wanted f.wanted.set (is_in_fence f old) (is_in_fence f new) (meets_fence f new) (crosses_watch f.watch old new)
      (and_off (meets_fence f old) (in_watch f.watch old) was) (and_off (meets_fence f new) (in_watch f.watch new) is) way p.inward

  put_is : (w : World) (new : Object) (c : Channel) → roams_over c.fence.watch ≡ None → payloads w (Put new) c ≡ map (λ d. set_payload c.name d new) (raised_by_put c.fence (object_at w new.key new.id) new)
  put_is w new c e = rw e refl

  put_silent : (c : Channel) (w : World) (new : Object) → IsWholeWatch c.fence.watch → IfWhole (object_at w new.key new.id) → IsWholeShape new.shape
      → is_concerned (box_if (object_at w new.key new.id)) (box_if (Some new)) (mark_of c) ≡ false → payloads w (Put new) c ≡ []
  put_silent c w new whole old_whole new_whole off =
      let old = object_at w new.key new.id in
      let p = apart (is_none (watched_box c.fence.watch)) c.fence.wanted.outside (both_meet (round_of (box_if old) (box_if (Some new))) (watched_box c.fence.watch)) off in
      put_is w new c (stands_still c.fence.watch p.still) ∙ rw (raised_off c old new whole old_whole new_whole p) refl

  was_off : (c : Channel) (old : Option Object) → IsWholeWatch c.fence.watch → IfWhole old → is_concerned (box_if old) None (mark_of c) ≡ false → was_in c.fence old ≡ false
  was_off c None w s off = refl
  was_off c (Some old) w s off = and_off (meets_fence c.fence old) (in_watch c.fence.watch old) (watched_off c.fence.watch old (box_of old.shape) w s (λ d e. e) off)

  del_silent : (c : Channel) (w : World) (key id : Bytes) → IsWholeWatch c.fence.watch → IfWhole (object_at w key id)
      → is_concerned (box_if (object_at w key id)) None (mark_of c) ≡ false → payloads w (Del key id) c ≡ []
  del_silent c w key id whole old_whole off =
      let old = object_at w key id in
      let raised = and_off c.fence.wanted.del (was_in c.fence old) (was_off c old whole old_whole off) in
      let none : (is_none (roams_over c.fence.watch) && raised_by_del c.fence old) ≡ false = and_off (is_none (roams_over c.fence.watch)) (raised_by_del c.fence old) raised in
      rw none refl

  pub silent : UnconcernedAreSilent
  silent = record { put = put_silent; del = del_silent }
