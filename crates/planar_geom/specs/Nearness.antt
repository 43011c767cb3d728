-- What is met is near: whole shapes and areas that meet have boxes that meet, and so has a box whose centre is near.
use Rattle.std.specs.Prelude.{◌≡◌, ℕ, ◌*◌, ◌≤◌, true, List}
use Rattle.planar_geom.specs.Points.{Point, Bounds, IsBox, boxes_meet, box_of_disc, box_round_both, box_dist2, centre, dist2}
use Rattle.planar_geom.specs.Shapes.{box_of, is_shape}
use Rattle.planar_geom.specs.Relations.{intersects, within, way_meets, area_box, IsArea}
use Rattle.planar_geom.specs.declared.shapes.Part.{Part}
use Rattle.planar_geom.specs.declared.shapes.Area.{Area}

-- a shape as every value of its type is: whole, with a box of the plane
pub record IsWholeShape (shape : List Part) : Type 0 where
  pub whole : is_shape shape ≡ true
  pub is_box : IsBox (box_of shape)

pub record MetIsNear : Type 0 where
  pub met : (shape : List Part) (area : Area) → IsWholeShape shape → IsArea area → intersects shape area ≡ true
      → boxes_meet (box_of shape) (area_box area) ≡ true
  pub inside : (shape : List Part) (area : Area) → IsWholeShape shape → IsArea area → within shape area ≡ true
      → boxes_meet (box_of shape) (area_box area) ≡ true
  pub box_near : (b : Bounds) (c : Point) (r : ℕ) → IsBox b → box_dist2 c b ≤ r * r → boxes_meet b (box_of_disc c r) ≡ true
  pub centre_near : (b : Bounds) (c : Point) (r : ℕ) → IsBox b → dist2 c (centre b) ≤ r * r → boxes_meet b (box_of_disc c r) ≡ true
  pub way : (b c : Bounds) (area : Area) → IsBox b → IsBox c → IsArea area → way_meets (centre b) (centre c) area ≡ true
      → boxes_meet (box_round_both b c) (area_box area) ≡ true
  pub meets_first : (b c d : Bounds) → boxes_meet b d ≡ true → boxes_meet (box_round_both b c) d ≡ true
  pub meets_second : (b c d : Bounds) → IsBox c → boxes_meet c d ≡ true → boxes_meet (box_round_both b c) d ≡ true
  pub either_order : (b c : Bounds) → boxes_meet b c ≡ boxes_meet c b
