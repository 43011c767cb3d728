use Rattle.std.proofs.Common.{refl}
use Rattle.durable_core.proofs.Stepping.{copied_on, faulted_on}
use Rattle.durable_core.proofs.tails.Tail.copy.Goals as goal

pub returns-in-Ok-clause-log : goal.returns-in-Ok-clause-log
returns-in-Ok-clause-log g c from j was is kept =
    let D = g.D.Disk in
    copied_on D.crashes D.seen D.images D.moment D.left_since c.args.self.now _ j kept from c.args.next c.copy.ensures.version c.copy.ensures.generation was is c.in-Ok.ensures.kept c.in-Ok.ensures.leaves c.requires.committed c.in-Ok.ensures.pending refl

pub returns-in-Err-clause-log : goal.returns-in-Err-clause-log
returns-in-Err-clause-log g c from j was is kept =
    let D = g.D.Disk in
    faulted_on D.crashes D.seen D.images D.moment D.left_since c.args.self.now _ j kept _ c.in-Err.ensures.leaves

pub returns-in-Ok-clause-written : goal.returns-in-Ok-clause-written
returns-in-Ok-clause-written g c s keeps = c.in-Ok.ensures.kept s.batches s.copied keeps
