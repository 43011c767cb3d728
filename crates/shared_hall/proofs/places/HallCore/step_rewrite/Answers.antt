use Rattle.std.proofs.Common.{[], inl, refl}
use Rattle.world_model.specs.declared.events.Event.TheVariants as event
use Rattle.world_model.specs.declared.events.Outcome.TheVariants as outcome
use Rattle.durable_core.specs.HistoryLaws.{step_written}
use Rattle.log_record.specs.AnswerLaws.{call_failed}
use Rattle.shared_hall.proofs.Growing.{fed_stepped}
use Rattle.shared_hall.proofs.Acting.{does_inside, does_nothing}
use Rattle.shared_hall.proofs.places.HallCore.step_rewrite.Goals as goal

pub returns-in-Inside-clause-act : goal.returns-in-Inside-clause-act
returns-in-Inside-clause-act g c = let m = g.D.Disk in let e = c.step_rewrite-called.ensures in
    does_inside m.crashes m.seen m.images m.moment m.left_since m.faults c.args.self.now.place c.begin.new.self.place c.in-Inside.core c.step_rewrite-called.new.self (event.Rewrite) (outcome.Answered c.step_rewrite-called.result) c.begin.ensures.place c.in-Inside.is
    refl e.step (step_written c.in-Inside.core c.step_rewrite-called.new.self c.step_rewrite-called.result e.writes) (λ is. e.cause (call_failed c.step_rewrite-called.result is)) e.later e.told e.log
    (fed_stepped m.crashes m.seen m.images c.in-Inside.core c.step_rewrite-called.new.self c.step_rewrite-called.result [] e.step e.writes e.written e.unmoved (λ _. refl) (λ j kept s keeps ok. inl refl))

pub returns-in-Out-clause-act : goal.returns-in-Out-clause-act
returns-in-Out-clause-act g c = let m = g.D.Disk in
    does_nothing m.crashes m.seen m.images m.moment m.left_since m.faults c.args.self.now.place c.begin.new.self.place _ (event.Rewrite) c.begin.ensures.place c.in-Out.is refl refl
    (λ d. record { counts_now = g.met.D.Disk.counts_now d; only_now = g.met.D.Disk.only_now d })
