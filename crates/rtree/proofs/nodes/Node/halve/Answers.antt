use Rattle.std.proofs.Common.{◌≡◌, ◌/◌, ◌≤◌, length, length-take, arith, ap}
use Rattle.rtree.specs.Subtrees.{Subtree}
use Rattle.rtree.proofs.Slots.{full_of, root_of, entries_parts, nodes_parts, split_full, part_left, part_right}
use Rattle.rtree.proofs.nodes.Node.halve.Goals as goal

pub returns-then-len-le-MOST-clause-root : goal.returns-then-len-le-MOST-clause-root
returns-then-len-le-MOST-clause-root c =
    rw (← c.self.view_is) (λ least two. root_of c.self.inside.height c.self.inside.slots.items c.self.invariant.each least two (omega arith))

pub invariant_of-result : goal.invariant_of-result
invariant_of-result c =
    rw (c.move_tail.ensures.moved) (part_right c.self.inside.height (c.len-keep.result / 2) _ _ c.self.inside.slots.items c.self.invariant (omega arith))

pub invariant_of-self : goal.invariant_of-self
invariant_of-self c =
    rw (c.move_tail.ensures.kept) (part_left c.self.inside.height (c.len-keep.result / 2) _ _ c.self.inside.slots.items c.self.invariant (omega arith))

pub returns-clause-entries : goal.returns-clause-entries
returns-clause-entries c =
    rw (c.move_tail.ensures.kept, c.move_tail.ensures.moved, ← c.self.view_is) (entries_parts (c.len-keep.result / 2) c.self.inside.slots.items)

pub returns-clause-lists : goal.returns-clause-lists
returns-clause-lists c =
    rw (c.move_tail.ensures.kept, c.move_tail.ensures.moved, ← c.self.view_is) (omega (arith, nodes_parts (c.len-keep.result / 2) c.self.inside.slots.items))

pub returns-clause-root : goal.returns-clause-root
returns-clause-root c =
    λ least two.
    let wide : length c.self.inside.slots.items ≡ c.args.self.now.width = ap (λ (v : Subtree). v.width) c.self.view_is in
    let most : length c.move_tail.new.from.items ≤ 16 = rw (c.move_tail.ensures.kept, length-take) (omega arith) in
    root_of c.self.inside.height c.move_tail.new.from.items (invariant_of-self c).each least two most

pub returns-clause-few_nodes : goal.returns-clause-few_nodes
returns-clause-few_nodes c =
    rw (c.move_tail.ensures.kept, c.move_tail.ensures.moved) (split_full c.self.inside.height (c.len-keep.result / 2) c.self.inside.slots.items c.self.invariant.each (omega arith))

pub returns-then-len-le-MOST-clause-full : goal.returns-then-len-le-MOST-clause-full
returns-then-len-le-MOST-clause-full c =
    rw (← c.self.view_is) (λ least most. full_of c.self.inside.height c.self.inside.slots.items c.self.invariant.each least most)

pub returns-clause-full : goal.returns-clause-full
returns-clause-full c =
    λ least most. full_of c.self.inside.height c.move_tail.new.from.items (invariant_of-self c).each least most
