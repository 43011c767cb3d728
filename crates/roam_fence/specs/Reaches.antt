-- The box that holds all that is near an object.
use Rattle.std.specs.Prelude.{ℕ, ◌≡◌, true, Option}
use Rattle.planar_geom.specs.Points.{Bounds}
use Rattle.planar_geom.specs.Nearness.{IsWholeShape}
use Rattle.world_data.specs.declared.objects.Object.{Object}
use Rattle.fence_model.specs.Fences.{is_near, was_near}
use Rattle.collection.specs.Meeting.{meets_box}

-- the box meets that of every object that is near the new one, or was near the old
pub record HoldsNear (meters : ℕ) (old : Option Object) (new : Object) (b : Bounds) : Type 0 where
  pub now : (t : Object) → IsWholeShape t.shape → is_near meters new t ≡ true → meets_box b t ≡ true
  pub before : (t : Object) → IsWholeShape t.shape → was_near meters old t ≡ true → meets_box b t ≡ true
