use Rattle.std.proofs.Common.{◌≡◌, ◌≤◌, false, Ok}
use Rattle.world_data.specs.declared.worlds.World.{World}
use Rattle.world_model.specs.declared.events.CallOutcome.{CallOutcome}
use Rattle.durable_core.specs.Kept.{IsKeptBy, LeadsTo, settled_log}
use Rattle.durable_core.specs.Rewriting.{shown_by, steps_left}
use Rattle.durable_core.specs.Upgrading.{IsUnderway}
use Rattle.durable_core.proofs.tails.Tail.rewrite.Given as goal

abbrev pub invariant-each : goal.invariant-each
invariant-each g l = record {
  log : (w : World) → IsKeptBy g.D.Disk.crashes g.D.Disk.seen g.D.Disk.images l.fn.self (settled_log w) → l.core.hall.world ≡ w
      → LeadsTo {E = CallOutcome} g.D.Disk.crashes g.D.Disk.seen g.D.Disk.images g.D.Disk.moment g.D.Disk.left_since l.fn.self l.self (Ok tt) (settled_log w) (settled_log w);
  works : l.self.journal.failed ≡ false;
  underway : IsUnderway l.fn.self.journal.log.version l.fn.self.journal.log.generation l.self.journal.log.version l.self.journal.log.generation (shown_by l.self.rewriting l.core.hall.world);
  later : g.D.Disk.faults l.fn.self.journal.disk ≤ g.D.Disk.faults l.self.journal.disk;
  told : g.D.Disk.crashes l.self.journal.disk ≡ g.D.Disk.crashes l.fn.self.journal.disk;
}

abbrev pub decreases-each : goal.decreases-each
decreases-each g l = steps_left l.core.hall.world (shown_by l.self.rewriting l.core.hall.world)
