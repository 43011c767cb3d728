use Rattle.std.proofs.Common.{◌≡◌, ◌≤◌, ap, length, arith, inl, inr}
use Rattle.std.proofs.lemmas.Bool.{cases_lt}
use Rattle.rtree.specs.Subtrees.{Subtree}
use Rattle.rtree.proofs.Slots.{root_of}
use Rattle.rtree.proofs.nodes.Node.settled.Goals as goal

pub returns-then-len-least_of_root-clause-root : goal.returns-then-len-least_of_root-clause-root
returns-then-len-least_of_root-clause-root c =
    let wide : length c.self.inside.slots.items ≡ c.args.self.width = ap (λ (v : Subtree). v.width) c.self.view_is in
    let some : 1 ≤ c.least_of_root.result = elim (cases_lt 1 c.self.inside.height) [
      | inl above ↦ omega (arith, c.least_of_root.ensures.above above)
      | inr leaf ↦ omega (arith, c.least_of_root.ensures.leaf leaf)
    ] in
    root_of c.self.inside.height c.self.inside.slots.items c.self.invariant.each (omega arith) (λ h. omega (arith, c.least_of_root.ensures.above h)) (omega arith)
