use Rattle.std.proofs.Common.{refl}
use Rattle.world_model.specs.declared.events.CallOutcome.{CallOutcome}
use Rattle.durable_core.specs.Kept.{settled_log}
use Rattle.durable_core.specs.Steps.{ended}
use Rattle.durable_core.proofs.Going.{turned}
use Rattle.durable_core.proofs.Older.{leads_first}
use Rattle.durable_core.proofs.Stepping.{then_as}
use Rattle.durable_core.proofs.tails.Tail.upgrade.Goals as goal

pub returns-clause-log : goal.returns-clause-log
returns-clause-log g c w kept is =
    let D = g.D.Disk in
    let old = c.args.self.now in
    let late = turned D.crashes D.seen D.images D.moment D.left_since g.met.D.Disk.as_read g.met.D.Disk.counts_now g.met.D.Disk.only_now old _ (settled_log w) refl (λ v copied batches copies. tt) kept in
    then_as {E = CallOutcome} D.crashes D.seen D.images D.moment D.left_since old _ c.rewrite.new.self (settled_log w) (leads_first D.crashes D.seen D.images D.moment D.left_since old _ w refl late) refl (ended c.rewrite.result) (c.rewrite.ensures.log w late is)
