use Rattle.std.proofs.Common.{refl}
use Rattle.durable_core.proofs.Stepping.{begun, faulted_on}
use Rattle.durable_core.proofs.tails.Tail.begin.Goals as goal

pub returns-in-Ok-clause-log : goal.returns-in-Ok-clause-log
returns-in-Ok-clause-log g c j kept =
    let D = g.D.Disk in
    begun D.crashes D.seen D.images D.moment D.left_since c.args.self.now _ j kept c.begin.ensures.version c.begin.ensures.generation c.in-Ok.ensures.kept c.in-Ok.ensures.leaves c.requires.committed c.in-Ok.ensures.pending refl

pub returns-in-Err-clause-log : goal.returns-in-Err-clause-log
returns-in-Err-clause-log g c j kept =
    let D = g.D.Disk in
    faulted_on D.crashes D.seen D.images D.moment D.left_since c.args.self.now _ j kept _ c.in-Err.ensures.leaves
