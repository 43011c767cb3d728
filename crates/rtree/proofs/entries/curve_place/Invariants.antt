use Rattle.std.proofs.Common.{◌≡◌, ◌<◌, ◌≤◌, ◌^◌, ◌*◌, ◌+◌}
use Rattle.rtree.specs.Curve.{curve_place as place_on_curve}
use Rattle.rtree.proofs.entries.curve_place.Given as goal

-- the point, seen in a square of side 2 ^ left, and behind how many such squares that one stands
abbrev pub invariant-loop-left : goal.invariant-loop-left
invariant-loop-left l = record {
  fewer : l.left ≤ l.fn.levels;
  x_within : l.x < 2 ^ l.left;
  y_within : l.y < 2 ^ l.left;
  value : l.place * (2 ^ l.left * 2 ^ l.left) + place_on_curve l.left l.x l.y ≡ place_on_curve l.fn.levels l.fn.x l.fn.y;
  below : (l.place + 1) * (2 ^ l.left * 2 ^ l.left) ≤ 2 ^ l.fn.levels * 2 ^ l.fn.levels;
}

abbrev pub decreases-loop-left : goal.decreases-loop-left
decreases-loop-left l = l.left
