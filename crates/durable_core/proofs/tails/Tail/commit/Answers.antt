use Rattle.std.proofs.Common.{refl}
use Rattle.durable_core.proofs.Committing.{leads_on, leads_off}
use Rattle.durable_core.proofs.tails.Tail.commit.Goals as goal

pub returns-in-Ok-clause-log : goal.returns-in-Ok-clause-log
returns-in-Ok-clause-log g c j kept =
    let D = g.D.Disk in
    leads_on D.crashes D.seen D.images D.moment D.left_since c.args.self.now _ refl c.commit.ensures.version c.commit.ensures.generation j kept c.in-Ok.ensures.kept c.in-Ok.ensures.leaves c.in-Ok.ensures.pending

pub returns-in-Err-clause-log : goal.returns-in-Err-clause-log
returns-in-Err-clause-log g c j kept =
    let D = g.D.Disk in
    leads_off D.crashes D.seen D.images D.moment D.left_since c.args.self.now _ refl c.commit.ensures.version c.commit.ensures.generation j kept _ c.in-Err.ensures.leaves

pub returns-in-Ok-clause-written : goal.returns-in-Ok-clause-written
returns-in-Ok-clause-written g c s keeps = c.in-Ok.ensures.kept s.batches s.copied keeps
