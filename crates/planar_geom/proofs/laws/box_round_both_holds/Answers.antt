use Rattle.planar_geom.specs.Points.{Bounds, centre}
use Rattle.planar_geom.proofs.AreaLaws.{first-meets, second-meets, first-holds, second-holds}
use Rattle.planar_geom.proofs.BoxLaws.{in_box-from, centre-inside}
use Rattle.planar_geom.proofs.laws.box_round_both_holds.Goals as goal

pub returns : goal.returns
returns c =
    let b : Bounds = c.args.old in
    let d : Bounds = c.args.new in
    record {
      holds_old = first-holds b d c.args._p;
      holds_new = second-holds b d c.args._p;
      old_centre = first-holds b d (centre b) (in_box-from b (centre b) (centre-inside b c.min-low.ensures.is_box));
      new_centre = second-holds b d (centre d) (in_box-from d (centre d) (centre-inside d c.min-other_low.ensures.is_box));
      meets_old = first-meets b d c.args._other;
      meets_new = second-meets b d c.args._other c.min-other_low.ensures.is_box;
    }
