use Rattle.std.proofs.Common.{◌≡◌, ◌+◌, ◌-◌, ◌*◌, ◌<◌, length, arith, ap, sym, ◌∙◌, subst}
use Rattle.rtree.specs.Pairs.{IsTaken}
use Rattle.rtree.specs.Subtrees.{entries_of}
use Rattle.rtree.specs.Trees.{Seen}
use Rattle.rtree.proofs.Lists.{length-with}
use Rattle.rtree.proofs.tree.Tree.remove.Goals as goal

pub returns-then-removed-clause-spare : goal.returns-then-removed-clause-spare
returns-then-removed-clause-spare g c =
    let old = c.in-Some.root.entries in
    let new = entries_of c.shrunk-root.result.0 in
    let spare : 7 * c.self.inside.lists - (c.self.inside.len + 1) ≡ c.args.self.now.spare = ap (λ (v : Seen). v.spare) c.self.view_is in
    let taken = subst (λ b. IsTaken b c.of.result old new) c.if-removed.true c.shrunk-root.ensures.taken in
    let longer = length-with c.of.result new old taken in
    let pairs : c.self.inside.len ≡ length old = c.self.invariant.pairs_are ∙ ap (λ r. length (entries_of r)) (sym c.in-Some.ensures.value) in
    let enough : c.self.inside.len < 7 * c.self.inside.lists = c.self.invariant.enough (omega (arith, longer, pairs)) in
    rw (c.if-removed.true) (omega (arith, spare, longer, pairs, enough))
