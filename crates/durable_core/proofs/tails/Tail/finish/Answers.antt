use Rattle.std.proofs.Common.{[], refl}
use Rattle.durable_core.proofs.Stepping.{finished, not_finished}
use Rattle.durable_core.proofs.tails.Tail.finish.Goals as goal

pub returns-in-Ok-clause-log : goal.returns-in-Ok-clause-log
returns-in-Ok-clause-log g c last j was none kept =
    let D = g.D.Disk in
    finished D.crashes D.seen D.images D.moment D.left_since c.args.self.now _ j kept last was none c.in-Ok.ensures.version c.in-Ok.ensures.generation c.in-Ok.ensures.kept c.in-Ok.ensures.leaves c.requires.committed c.in-Ok.ensures.pending refl

pub returns-in-Err-clause-log : goal.returns-in-Err-clause-log
returns-in-Err-clause-log g c last j was none kept =
    let D = g.D.Disk in
    not_finished D.crashes D.seen D.images D.moment D.left_since c.args.self.now _ j kept last was none _ c.in-Err.ensures.leaves

pub returns-in-Ok-clause-written : goal.returns-in-Ok-clause-written
returns-in-Ok-clause-written g c s keeps = c.in-Ok.ensures.kept s.batches s.copied [] keeps
