use Rattle.std.proofs.Common.{◌≤◌, subst}
use Rattle.rtree.specs.Subtrees.{Subtree, IsFull}
use Rattle.rtree.proofs.Slots.{full_of}
use Rattle.rtree.proofs.nodes.Node.summary_without.Goals as goal

pub returns-clause-full : goal.returns-clause-full
returns-clause-full g c = subst (λ (v : Subtree). 8 ≤ v.width → v.width ≤ 16 → IsFull v) c.self.view_is (λ least most. full_of c.self.inside.height c.self.inside.slots.items c.self.invariant.each least most)
