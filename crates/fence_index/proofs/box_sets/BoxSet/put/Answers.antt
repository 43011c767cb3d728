use Rattle.std.proofs.Common.{arith}
use Rattle.rtree.specs.Pairs.{pair}
use Rattle.rtree.specs.OnePair.{more_with}
use Rattle.fence_index.proofs.OnePair.{length_with, none_weighs, some_weighs}
use Rattle.fence_index.proofs.box_sets.BoxSet.put.Goals as goal

pub insert-requires : goal.insert-requires
insert-requires c = let h = rw (c.in-Some.is, ← c.self.view_is) at c.requires in omega (arith, h)

pub overflow_add-self : goal.overflow_add-self
overflow_add-self c = let h = rw (c.in-Some.is, ← c.self.view_is) at c.requires in omega (arith, h)

pub invariant_of-self : goal.invariant_of-self
invariant_of-self c =
    let more = length_with (pair c.in-Some.b c.args.number) c.self.inside.tree.pairs c.insert.new.self.pairs c.insert.ensures.pairs in
    omega (arith, more, c.self.invariant)

pub returns-in-Some : goal.returns-in-Some
returns-in-Some c = λ w.
    let more = more_with (pair c.in-Some.b c.args.number) c.self.inside.tree.pairs c.insert.new.self.pairs c.insert.ensures.pairs w in
    let weight = some_weighs c.args.b c.in-Some.b c.args.number w c.in-Some.is in
    rw (← c.self.view_is) (omega (arith, more, weight))

pub returns-in_default : goal.returns-in_default
returns-in_default c = λ w. let none = none_weighs c.args.b c.args.number w c.in_default.is in omega (arith, none)
