use Rattle.repl_node.proofs.Hearing.{first_is, first_worlds}
use Rattle.repl_node.proofs.nodes.Node.new.Goals as goal

pub invariant_of-result : goal.invariant_of-result
invariant_of-result c = first_worlds c.new.result c.new-2.result c.new.ensures c.new-2.ensures.at c.new-2.ensures.none

pub returns : goal.returns
returns c = first_is c.new.result c.new-2.result c.new.ensures c.new-2.ensures.none
