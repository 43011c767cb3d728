use Rattle.std.proofs.Common.{◌≡◌, ◌≤◌, ◌-◌}
use Rattle.rtree.specs.Trees.{IsTree}
use Rattle.rtree.proofs.tree.Tree.reserve.Given as goal

abbrev pub invariant-loop-self : goal.invariant-loop-self
invariant-loop-self l = record {
  root : l.self-inside.root ≡ l.initial.self-inside.root;
  pairs : l.self-inside.len ≡ l.initial.self-inside.len;
  tree : IsTree l.self-inside.root l.self-inside.pool l.self-inside.len l.self-inside.lists;
  room : l.wanted ≤ l.self-inside.pool.room;
  more : l.initial.self-inside.lists ≤ l.self-inside.lists;
}

abbrev pub decreases-loop-self : goal.decreases-loop-self
decreases-loop-self l = l.wanted - l.self-inside.lists
