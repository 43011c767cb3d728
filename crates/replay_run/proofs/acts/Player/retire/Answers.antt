use Rattle.std.proofs.Common.{subst, sym, ◌++◌}
use Rattle.log_record.specs.AnswerLaws.{call_failed}
use Rattle.replay_run.specs.Standing.{IsSafeFor}
use Rattle.replay_run.specs.Plays.{retired}
use Rattle.replay_run.proofs.Reopening.{held_as, retires_safe}
use Rattle.replay_run.proofs.acts.Player.retire.Goals as goal

pub returns-clause-safe : goal.returns-clause-safe
returns-clause-safe g c before s =
    let e = c.retire-answer.ensures in
    subst (λ d. IsSafeFor g.D.Disk.images g.D.Disk.left_since d (before ++ retired c.retire-answer.result)) (sym c.into_disk.ensures)
    (retires_safe g.D.Disk.crashes g.D.Disk.seen g.D.Disk.images g.D.Disk.moment g.D.Disk.left_since g.D.Disk.faults (λ d. record { counts_now = g.met.D.Disk.counts_now d; only_now = g.met.D.Disk.only_now d }) c.args.self.core c.retire-answer.new.self c.retire-answer.result before s e.step e.later (λ f. e.cause (call_failed c.retire-answer.result f)) e.log)

pub returns-clause-holds : goal.returns-clause-holds
returns-clause-holds g c logs ok =
    let e = c.retire-answer.ensures in
    held_as g.D.Disk.seen _ _ _ _ (sym c.into_disk.ensures) e.world (e.left logs.0 logs.1 ok)
