use Rattle.std.proofs.Common.{refl}
use Rattle.world_model.specs.Histories.{answer}
use Rattle.world_model.specs.declared.events.Event.TheVariants as event
use Rattle.durable_core.specs.HistoryLaws.{writing_is}
use Rattle.log_record.specs.AnswerLaws.{call_failed}
use Rattle.replay_run.proofs.Calling.{comes_of}
use Rattle.replay_run.proofs.calls.call.Goals as goal

pub returns : goal.returns
returns g c =
    let e = c.call-called.ensures in
    record {
      made = comes_of g.D.Disk.crashes g.D.Disk.seen g.D.Disk.images g.D.Disk.moment g.D.Disk.left_since g.D.Disk.faults (λ d. record { counts_now = g.met.D.Disk.counts_now d; only_now = g.met.D.Disk.only_now d })
          c.args.core.now c.call-called.new.self (event.Call c.args.session c.args.moment c.args.asked.now) (answer c.call-called.result) c.called_text.result refl c.requires.goes e.step (λ _. writing_is c.call-called.new.self _ _ e.rewriting e.generation) e.told e.later (λ f. e.cause (call_failed c.call-called.result f)) e.log c.called_text.ensures.done c.called_text.ensures.failed;
    }
