use Rattle.std.proofs.Common.{◌≤◌, ◌∙◌, ℕ, true≢false, sym, subst, arith}
use Rattle.std.specs.List.{sum_by}
use Rattle.rtree.specs.Pairs.{Pair, pair}
use Rattle.fence_index.specs.Held.{Held, weight_of}
use Rattle.fence_index.proofs.OnePair.{box_stands, length_taken, none_weighs, some_weighs, taken_out}
use Rattle.fence_index.proofs.box_sets.BoxSet.take.Goals as goal

pub overflow_sub-self : goal.overflow_sub-self
overflow_sub-self c =
    let less = length_taken c.remove.result (pair c.in-Some.b c.args.number) c.self.inside.tree.pairs c.remove.new.self.pairs c.if-remove.true c.remove.ensures.taken in
    omega (arith, less, c.self.invariant)

pub invariant_of-self : goal.invariant_of-self
invariant_of-self c =
    let less = length_taken c.remove.result (pair c.in-Some.b c.args.number) c.self.inside.tree.pairs c.remove.new.self.pairs c.if-remove.true c.remove.ensures.taken in
    omega (arith, less, c.self.invariant)

pub invariant_of-self-else-remove : goal.invariant_of-self-else-remove
invariant_of-self-else-remove c =
    let asked = subst (λ (h : Held). (w : Pair → ℕ) → weight_of w c.args.b c.args.number ≤ sum_by w h.pairs) (sym c.self.view_is) c.requires in
    let there = box_stands c.args.b c.in-Some.b c.args.number c.self.inside.tree.pairs c.in-Some.is asked in
    let took = taken_out c.remove.result (pair c.in-Some.b c.args.number) c.self.inside.tree.pairs c.remove.new.self.pairs there c.remove.ensures.taken in
    absurd (true≢false (sym took.0 ∙ c.if-remove.false))

pub returns-then-remove-clause-pairs : goal.returns-then-remove-clause-pairs
returns-then-remove-clause-pairs c = λ w.
    let asked = subst (λ (h : Held). (w : Pair → ℕ) → weight_of w c.args.b c.args.number ≤ sum_by w h.pairs) (sym c.self.view_is) c.requires in
    let there = box_stands c.args.b c.in-Some.b c.args.number c.self.inside.tree.pairs c.in-Some.is asked in
    let took = (taken_out c.remove.result (pair c.in-Some.b c.args.number) c.self.inside.tree.pairs c.remove.new.self.pairs there c.remove.ensures.taken).1 w in
    let weight = some_weighs c.args.b c.in-Some.b c.args.number w c.in-Some.is in
    rw (← c.self.view_is) (omega (arith, took, weight))

pub returns-else-remove-clause-pairs : goal.returns-else-remove-clause-pairs
returns-else-remove-clause-pairs c = λ w.
    let asked = subst (λ (h : Held). (w : Pair → ℕ) → weight_of w c.args.b c.args.number ≤ sum_by w h.pairs) (sym c.self.view_is) c.requires in
    let there = box_stands c.args.b c.in-Some.b c.args.number c.self.inside.tree.pairs c.in-Some.is asked in
    let took = taken_out c.remove.result (pair c.in-Some.b c.args.number) c.self.inside.tree.pairs c.remove.new.self.pairs there c.remove.ensures.taken in
    absurd (true≢false (sym took.0 ∙ c.if-remove.false))

pub returns-in_default-clause-pairs : goal.returns-in_default-clause-pairs
returns-in_default-clause-pairs c = λ w. let none = none_weighs c.args.b c.args.number w c.in_default.is in omega (arith, none)
