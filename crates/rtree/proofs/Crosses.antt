-- A tree may go to another thread, and its nodes lead back to themselves, so this is found by their own laws, and no type round a tree finds it by itself.
use denote.Param.Send.{IsSend, sendable}
use Rattle.std.proofs.Crossing.{crosses}
use Rattle.rtree.proofs.nodes.Node.TheLaws.TheKnot as knot
use Rattle.rtree.specs.contracts.tree.Tree.{the_row}

pub tree_send : IsSend the_row
tree_send = search (crosses, knot.crosses, sendable) depth 60 fits 20000
