use Rattle.std.proofs.Common.{refl}
use Rattle.world_model.specs.declared.events.Event.TheVariants as event
use Rattle.world_model.specs.Outcomes.{take_outcome}
use Rattle.log_record.specs.AnswerLaws.{take_failed}
use Rattle.shared_hall.proofs.Acting.{does_inside, does_nothing}
use Rattle.durable_core.specs.HistoryLaws.{writing_is}
use Rattle.shared_hall.proofs.Growing.{fed_mirrored}
use Rattle.shared_hall.proofs.places.HallCore.take.Goals as goal

pub returns-in-Inside-clause-act : goal.returns-in-Inside-clause-act
returns-in-Inside-clause-act g c = let m = g.D.Disk in let e = c.take.ensures in
    does_inside m.crashes m.seen m.images m.moment m.left_since m.faults c.args.self.now.place c.begin.new.self.place c.in-Inside.core c.take.new.self (event.Take c.args.session) (take_outcome c.take.result c.take.new.into.list) c.begin.ensures.place c.in-Inside.is
    refl e.step (λ _. writing_is c.take.new.self _ _ e.rewriting e.generation) (λ is. e.cause (take_failed c.take.result c.take.new.into.list is)) e.later e.told e.log (fed_mirrored m.crashes m.seen m.images c.in-Inside.core c.take.new.self e.generation e.written)

pub returns-in-Out-clause-act : goal.returns-in-Out-clause-act
returns-in-Out-clause-act g c = let m = g.D.Disk in
    does_nothing m.crashes m.seen m.images m.moment m.left_since m.faults c.args.self.now.place c.begin.new.self.place _ (event.Take c.args.session) c.begin.ensures.place c.in-Out.is refl refl
    (λ d. record { counts_now = g.met.D.Disk.counts_now d; only_now = g.met.D.Disk.only_now d })
