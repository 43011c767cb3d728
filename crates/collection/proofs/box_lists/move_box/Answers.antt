use Rattle.std.proofs.Common.{ap, arith}
use Rattle.rtree.specs.Pairs.{pair}
use Rattle.rtree.specs.OnePair.{more_with, more_taken}
use Rattle.collection.proofs.Cheap.{no_more, twice}
use Rattle.collection.proofs.box_lists.move_box.Goals as goal

pub returns-clause-pairs : goal.returns-clause-pairs
returns-clause-pairs g c = λ w.
    let old = pair c.args.old c.args.key in
    let new = pair c.box_at-new.result c.args.key in
    let left = (more_taken c.remove.result old c.args.boxes.now.pairs c.remove.new.self.pairs c.requires.boxed c.remove.ensures.taken).1 w in
    let made = more_with new c.remove.new.self.pairs c.insert.new.self.pairs c.insert.ensures.pairs w in
    let is = ap w c.box_at-new.ensures.value in
    omega (arith, left, made, is)

pub returns-clause-cost : goal.returns-clause-cost
returns-clause-cost g c =
    let few = no_more c.remove.result (pair c.args.old c.args.key) c.args.boxes.now.pairs c.remove.new.self.pairs c.remove.ensures.taken in
    twice _ _ _ _ _ c.args.boxes.now.depth c.remove.new.self.depth few c.remove.ensures.levels c.insert.ensures.levels c.remove.ensures.cost c.insert.ensures.cost
