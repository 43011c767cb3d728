use Rattle.std.proofs.Common.{◌≡◌, ◌+◌, ◌++◌, vec_capacity, arith, ap, sym, ◌∙◌, subst}
use Rattle.rtree.specs.Pairs.{IsOrdered}
use Rattle.rtree.specs.Subtrees.{Subtree}
use Rattle.rtree.specs.Slots.{all_entries, all_nodes, IsNode}
use Rattle.rtree.proofs.Slots.{entries-append, nodes-append, joined, front_node, back_node}
use Rattle.rtree.proofs.nodes.Node.join.Goals as goal

pub invariant_of-self : goal.invariant_of-self
invariant_of-self c =
    let low = c.self.inside.slots.items in
    let high = c.other.inside.slots.items in
    let level = ap (λ (v : Subtree). v.height) c.self.view_is ∙ (c.requires.level ∙ sym (ap (λ (v : Subtree). v.height) c.other.view_is)) in
    let order = subst (λ (v : Subtree). IsOrdered (all_entries low ++ v.entries)) (sym c.other.view_is) (subst (λ (v : Subtree). IsOrdered (v.entries ++ c.args.other.entries)) (sym c.self.view_is) c.requires.ordered) in
    let whole = joined c.self.inside.height c.other.inside.height _ _ _ low high c.self.invariant c.other.invariant level order (omega (arith, c.self.invariant.roomy)) in
    rw (c.move_all.ensures.items) whole

pub returns-then-len-le-MOST-clause-lists : goal.returns-then-len-le-MOST-clause-lists
returns-then-len-le-MOST-clause-lists c =
    let low = c.self.inside.slots.items in
    let high = c.other.inside.slots.items in
    let one : all_nodes low + 1 ≡ c.args.self.now.nodes = ap (λ (v : Subtree). v.nodes) c.self.view_is in
    let two : all_nodes high + 1 ≡ c.args.other.nodes = ap (λ (v : Subtree). v.nodes) c.other.view_is in
    rw (c.move_all.ensures.items) (omega (arith, nodes-append low high))

-- the slots of both, as they are shared out
whole : (c : goal.After-even) → IsNode c.self.inside.height (c.even.new.low.items ++ c.even.new.high.items) 17
whole c =
    let low = c.self.inside.slots.items in
    let high = c.other.inside.slots.items in
    let level = ap (λ (v : Subtree). v.height) c.self.view_is ∙ (c.requires.level ∙ sym (ap (λ (v : Subtree). v.height) c.other.view_is)) in
    let order = subst (λ (v : Subtree). IsOrdered (all_entries low ++ v.entries)) (sym c.other.view_is) (subst (λ (v : Subtree). IsOrdered (v.entries ++ c.args.other.entries)) (sym c.self.view_is) c.requires.ordered) in
    subst (λ xs. IsNode c.self.inside.height xs 17) (sym c.even.ensures.items) (joined c.self.inside.height c.other.inside.height _ _ 17 low high c.self.invariant c.other.invariant level order (omega arith))

pub invariant_of-other : goal.invariant_of-other
invariant_of-other c =
    let level = ap (λ (v : Subtree). v.height) c.self.view_is ∙ (c.requires.level ∙ sym (ap (λ (v : Subtree). v.height) c.other.view_is)) in
    subst (λ h. IsNode h c.even.new.high.items (vec_capacity c.even.new.high)) level (back_node c.self.inside.height 17 (vec_capacity c.even.new.high) c.even.new.low.items c.even.new.high.items (whole c) (omega (arith, c.other.invariant.roomy)))

pub invariant_of-self-2 : goal.invariant_of-self-2
invariant_of-self-2 c =
    front_node c.self.inside.height 17 (vec_capacity c.even.new.low) c.even.new.low.items c.even.new.high.items (whole c) (omega (arith, c.self.invariant.roomy))

pub returns-clause-entries : goal.returns-clause-entries
returns-clause-entries c =
    let low = c.self.inside.slots.items in
    let high = c.other.inside.slots.items in
    let all = sym (entries-append c.even.new.low.items c.even.new.high.items) ∙ (ap all_entries c.even.ensures.items ∙ entries-append low high) in
    rw (← c.self.view_is, ← c.other.view_is) all

pub returns-clause-lists : goal.returns-clause-lists
returns-clause-lists c =
    let low = c.self.inside.slots.items in
    let high = c.other.inside.slots.items in
    let one : all_nodes low + 1 ≡ c.args.self.now.nodes = ap (λ (v : Subtree). v.nodes) c.self.view_is in
    let two : all_nodes high + 1 ≡ c.args.other.nodes = ap (λ (v : Subtree). v.nodes) c.other.view_is in
    let same : all_nodes (c.even.new.low.items ++ c.even.new.high.items) ≡ all_nodes (low ++ high) = ap all_nodes c.even.ensures.items in
    omega (arith, same, nodes-append c.even.new.low.items c.even.new.high.items, nodes-append low high)
