use Rattle.std.proofs.Common.{refl}
use Rattle.repl_node.proofs.Steps.{kept_open}
use Rattle.repl_node.proofs.followers.Follower.new.Goals as goal

pub returns-clause-first : goal.returns-clause-first
returns-clause-first g c = rw c.new.ensures (kept_open (g.K.ReadyLink.shows c.args.link) c.args.node _ (refl, c.ask-phase.ensures))
