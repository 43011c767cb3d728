use Rattle.std.proofs.Common.{refl, sym, subst}
use Rattle.world_model.specs.declared.events.Event.TheVariants as event
use Rattle.world_model.specs.declared.events.Outcome.TheVariants as outcome
use Rattle.world_model.specs.Halls.{Hall, NamesChanged}
use Rattle.tile_core.specs.Answered.{AreSessions}
use Rattle.durable_core.specs.Logged.{hall_of}
use Rattle.log_record.specs.AnswerLaws.{call_failed}
use Rattle.shared_hall.proofs.Acting.{does_inside, does_nothing, hall_inside}
use Rattle.durable_core.specs.HistoryLaws.{writing_is}
use Rattle.shared_hall.proofs.Growing.{fed_mirrored}
use Rattle.shared_hall.proofs.places.HallCore.tick.Goals as goal

pub tick-requires-clause-room : goal.tick-requires-clause-room
tick-requires-clause-room g c = let m = g.D.Disk in subst (λ (h : Hall). AreSessions c.args.touched.now h) (sym (hall_inside m.crashes m.seen m.images m.moment m.left_since m.faults _ _ c.in-Inside.core c.begin.ensures.place c.in-Inside.is)) c.requires.room

pub returns-in-Inside-clause-named : goal.returns-in-Inside-clause-named
returns-in-Inside-clause-named g c = let m = g.D.Disk in subst (λ (h : Hall). NamesChanged c.tick.new.touched h (hall_of c.tick.new.self)) (hall_inside m.crashes m.seen m.images m.moment m.left_since m.faults _ _ c.in-Inside.core c.begin.ensures.place c.in-Inside.is) c.tick.ensures.named

pub returns-in-Inside-clause-act : goal.returns-in-Inside-clause-act
returns-in-Inside-clause-act g c = let m = g.D.Disk in let e = c.tick.ensures in
    does_inside m.crashes m.seen m.images m.moment m.left_since m.faults c.args.self.now.place c.begin.new.self.place c.in-Inside.core c.tick.new.self (event.Tick c.args.moment) (outcome.Answered c.tick.result) c.begin.ensures.place c.in-Inside.is
    refl e.step (λ _. writing_is c.tick.new.self _ _ e.rewriting e.generation) (λ is. e.cause (call_failed c.tick.result is)) e.later e.told e.log (fed_mirrored m.crashes m.seen m.images c.in-Inside.core c.tick.new.self e.generation e.written)

pub returns-in-Out-clause-act : goal.returns-in-Out-clause-act
returns-in-Out-clause-act g c = let m = g.D.Disk in
    does_nothing m.crashes m.seen m.images m.moment m.left_since m.faults c.args.self.now.place c.begin.new.self.place _ (event.Tick c.args.moment) c.begin.ensures.place c.in-Out.is refl refl
    (λ d. record { counts_now = g.met.D.Disk.counts_now d; only_now = g.met.D.Disk.only_now d })
