use Rattle.std.proofs.Common.{arith, ℤ, ◌≤ℤ◌}
use Rattle.std.proofs.lemmas.Int.{ints}
use Rattle.planar_geom.specs.Points.{Bounds, IsBox, InPlane, centre}
use Rattle.planar_geom.specs.Relations.{area_box}
use Rattle.planar_geom.proofs.AreaLaws.{met-boxes, near-meets, centre-meets, first-meets, second-meets}
use Rattle.planar_geom.proofs.BoxLaws.{both-meet, centre-inside}
use Rattle.planar_geom.proofs.SegmentLaws.{boxes_meet-swap}
use Rattle.planar_geom.proofs.WayLaws.{way_meets-boxes}
use Rattle.planar_geom.proofs.WithinLaws.{within-intersects}
use Rattle.planar_geom.proofs.laws.met_is_near.Goals as goal

at_least : (least a x : ℤ) → least ≤ℤ a → a ≤ℤ x → least ≤ℤ x
at_least least a x h k = omega (arith, ints, h, k)

at_most : (b x greatest : ℤ) → x ≤ℤ b → b ≤ℤ greatest → x ≤ℤ greatest
at_most b x greatest h k = omega (arith, ints, h, k)

centre-in-plane : (b : Bounds) → IsBox b → InPlane (centre b)
centre-in-plane b is_box =
    let i = centre-inside b is_box in
    record {
      x_in = record { low = at_least _ b.min.x (centre b).x is_box.min_in_plane.x_in.low i.left; high = at_most b.max.x (centre b).x _ i.right is_box.max_in_plane.x_in.high };
      y_in = record { low = at_least _ b.min.y (centre b).y is_box.min_in_plane.y_in.low i.bottom; high = at_most b.max.y (centre b).y _ i.top is_box.max_in_plane.y_in.high };
    }

pub returns : goal.returns
returns c = record {
  met = λ shape area s a e. met-boxes shape area s.whole s.is_box a e;
  inside = λ shape area s a e. met-boxes shape area s.whole s.is_box a (within-intersects shape area s.whole a e);
  box_near = near-meets;
  centre_near = centre-meets;
  way = λ b c area is_b is_c a e. both-meet b c (area_box area) (centre b) (centre c) (centre-inside b is_b) (centre-inside c is_c) is_c (way_meets-boxes (centre b) (centre c) area (centre-in-plane b is_b) a e);
  meets_first = first-meets;
  meets_second = second-meets;
  either_order = boxes_meet-swap;
}
