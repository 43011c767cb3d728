use Rattle.std.proofs.Common.{refl, ap, arith, ◌≤◌}
use Rattle.world_model.specs.declared.events.Event.TheVariants as event
use Rattle.world_model.specs.declared.events.Outcome.TheVariants.{Done}
use Rattle.durable_core.specs.declared.tails.Tail.{Tail}
use Rattle.durable_core.specs.HistoryLaws.{writing_stays}
use Rattle.replay_run.proofs.Calling.{printed_as, wants_memory, comes_of}
use Rattle.replay_run.proofs.calls.close.Goals as goal

pub returns : goal.returns
returns g c =
    let e = c.close_session.ensures in
    let later : g.D.Disk.faults c.args.core.now.tail.journal.disk ≤ g.D.Disk.faults c.close_session.new.self.tail.journal.disk = let same = ap g.D.Disk.faults (ap (λ (t : Tail _). t.journal.disk) e.tail) in omega (arith, same) in
    record {
      made = comes_of g.D.Disk.crashes g.D.Disk.seen g.D.Disk.images g.D.Disk.moment g.D.Disk.left_since g.D.Disk.faults (λ d. record { counts_now = g.met.D.Disk.counts_now d; only_now = g.met.D.Disk.only_now d })
          c.args.core.now c.close_session.new.self (event.Close c.args.session) Done c.text_of.result refl c.requires.goes e.step (λ _. writing_stays c.args.core.now c.close_session.new.self e.tail) (ap g.D.Disk.crashes (ap (λ (t : Tail _). t.journal.disk) e.tail)) later (λ f. absurd (cc)) e.log
          (printed_as c.text_of.result Done _ refl c.text_of.ensures.text) (wants_memory c.text_of.result Done refl c.text_of.ensures.memory);
    }
