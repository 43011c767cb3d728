use Rattle.rtree.proofs.Nears.{near_one, near_below}
use Rattle.rtree.proofs.near.met.Goals as goal
use Rattle.rtree.proofs.near.met.Goals.{in-None, in-Some}

pub returns-clause-near : goal.returns-clause-near
returns-clause-near c =
    let s = c.args.slot.now in
    elim c.match-below.branch [
      | in-None w ↦ rw (c.box_dist2.ensures, c.bounds.ensures, w.result-is) (near_one c.args.from c.requires.slot.0 s w.first.result c.requires.slot.1 w.in-None.ensures w.first.ensures)
      | in-Some w ↦ rw (c.box_dist2.ensures, c.bounds.ensures, w.result-is) (near_below c.args.from c.requires.slot.0 s w.in-Some.child c.requires.slot.1 w.in-Some.ensures)
    ]
