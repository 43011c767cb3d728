use Rattle.std.proofs.Common.{ap, refl}
use Rattle.world_model.specs.declared.events.Event.TheVariants as event
use Rattle.world_model.specs.Outcomes.{enter_outcome}
use Rattle.durable_core.specs.declared.tails.Tail.{Tail}
use Rattle.log_record.specs.AnswerLaws.{entering_says}
use Rattle.shared_hall.proofs.Acting.{does_beside, does_nothing}
use Rattle.durable_core.specs.HistoryLaws.{writing_stays}
use Rattle.shared_hall.proofs.Growing.{fed_beside}
use Rattle.shared_hall.proofs.places.HallCore.enter.Goals as goal

pub returns-in-Inside-clause-act : goal.returns-in-Inside-clause-act
returns-in-Inside-clause-act g c = let m = g.D.Disk in let e = c.enter.ensures in
    does_beside m.crashes m.seen m.images m.moment m.left_since m.faults c.args.self.now.place c.begin.new.self.place c.in-Inside.core c.enter.new.self event.Enter (enter_outcome c.enter.result) c.begin.ensures.place c.in-Inside.is
    refl e.step (λ _. writing_stays c.in-Inside.core c.enter.new.self e.tail) (entering_says c.enter.result).no_fault (ap (λ (t : Tail _). t.journal.disk) e.tail) e.log (fed_beside m.crashes m.seen m.images c.in-Inside.core c.enter.new.self e.tail)

pub returns-in-Out-clause-act : goal.returns-in-Out-clause-act
returns-in-Out-clause-act g c = let m = g.D.Disk in
    does_nothing m.crashes m.seen m.images m.moment m.left_since m.faults c.args.self.now.place c.begin.new.self.place _ (event.Enter) c.begin.ensures.place c.in-Out.is refl refl
    (λ d. record { counts_now = g.met.D.Disk.counts_now d; only_now = g.met.D.Disk.only_now d })
