use Rattle.std.proofs.Common.{subst}
use Rattle.planar_geom.specs.Points.{IsBox}
use Rattle.roam_fence.proofs.Reached.{holds_one, holds_both}
use Rattle.roam_fence.proofs.pairs.round_reach.Goals as goal

pub returns-in-Some : goal.returns-in-Some
returns-in-Some c =
    let both = holds_both c.met_is_near.ensures c.args.meters c.in-Some.old.now c.args.new.now (subst IsBox c.reach_of.ensures.value c.reach_of.ensures.is_box) in
    rw (c.in-Some.is, c.with_box.ensures, c.reach_of-reach.ensures.value, c.reach_of.ensures.value) both

pub returns-in-None : goal.returns-in-None
returns-in-None c = rw (c.in-None.is, c.reach_of-reach.ensures.value) (holds_one c.met_is_near.ensures c.args.meters c.args.new.now)
