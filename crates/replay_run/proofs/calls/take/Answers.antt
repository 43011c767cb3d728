use Rattle.std.proofs.Common.{refl}
use Rattle.world_model.specs.Outcomes.{take_outcome}
use Rattle.world_model.specs.declared.events.Event.TheVariants as event
use Rattle.durable_core.specs.HistoryLaws.{writing_is}
use Rattle.log_record.specs.AnswerLaws.{take_failed}
use Rattle.replay_run.proofs.Calling.{comes_of}
use Rattle.replay_run.proofs.calls.take.Goals as goal

pub returns-clause-made : goal.returns-clause-made
returns-clause-made g c =
    let e = c.take-taken.ensures in
    comes_of g.D.Disk.crashes g.D.Disk.seen g.D.Disk.images g.D.Disk.moment g.D.Disk.left_since g.D.Disk.faults (λ d. record { counts_now = g.met.D.Disk.counts_now d; only_now = g.met.D.Disk.only_now d })
    c.args.core.now c.take-taken.new.self (event.Take c.args.session) (take_outcome c.take-taken.result c.take-taken.new.into.list) c.taken_text-text.result refl c.requires.goes e.step (λ _. writing_is c.take-taken.new.self _ _ e.rewriting e.generation) e.told e.later (λ f. e.cause (take_failed c.take-taken.result c.take-taken.new.into.list f)) e.log c.taken_text-text.ensures.done c.taken_text-text.ensures.failed
