use Rattle.std.proofs.Common.{refl}
use Rattle.world_model.specs.Histories.{answer}
use Rattle.world_model.specs.declared.events.Event.TheVariants as event
use Rattle.durable_core.specs.HistoryLaws.{step_written}
use Rattle.log_record.specs.AnswerLaws.{call_failed}
use Rattle.replay_run.proofs.Calling.{comes_of}
use Rattle.replay_run.proofs.calls.step.Goals as goal

pub returns : goal.returns
returns g c =
    let e = c.step_rewrite-called.ensures in
    record {
      made = comes_of g.D.Disk.crashes g.D.Disk.seen g.D.Disk.images g.D.Disk.moment g.D.Disk.left_since g.D.Disk.faults (λ d. record { counts_now = g.met.D.Disk.counts_now d; only_now = g.met.D.Disk.only_now d })
          c.args.core.now c.step_rewrite-called.new.self event.Rewrite (answer c.step_rewrite-called.result) c.called_text.result refl c.requires.goes e.step (step_written c.args.core.now c.step_rewrite-called.new.self c.step_rewrite-called.result e.writes) e.told e.later (λ f. e.cause (call_failed c.step_rewrite-called.result f)) e.log c.called_text.ensures.done c.called_text.ensures.failed;
    }
