use Rattle.std.proofs.Common.{◌≡◌, ◌≢◌, ◌<◌, drop, flat_map}
use Rattle.std.specs.Prelude.{fold, None}
use Rattle.planar_geom.specs.Points.{grown}
use Rattle.planar_geom.specs.Shapes.{all_vertices}
use Rattle.collection.proofs.bounds.bounds_of.Given as goal

-- the box so far, and the objects that are left
abbrev pub invariant-loop-i : goal.invariant-loop-i
invariant-loop-i l = record {
  taken_in : fold grown l.round (flat_map (λ o. all_vertices o.shape) (drop l.i l.objects.objects)) ≡ fold grown None (flat_map (λ o. all_vertices o.shape) l.objects.objects);
  some : 0 < l.i → l.round ≢ None;
}
