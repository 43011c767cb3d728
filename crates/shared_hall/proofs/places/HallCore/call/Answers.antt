use Rattle.std.proofs.Common.{refl, sym, subst}
use Rattle.world_model.specs.declared.events.Event.TheVariants as event
use Rattle.world_model.specs.declared.events.Outcome.TheVariants as outcome
use Rattle.world_model.specs.Halls.{Hall, NamesChanged}
use Rattle.tile_core.specs.Answered.{AreSessions}
use Rattle.durable_core.specs.Logged.{hall_of}
use Rattle.log_record.specs.AnswerLaws.{call_failed}
use Rattle.shared_hall.proofs.Acting.{does_inside, does_nothing, hall_inside}
use Rattle.durable_core.specs.HistoryLaws.{writing_is}
use Rattle.shared_hall.proofs.Growing.{fed_mirrored}
use Rattle.shared_hall.proofs.places.HallCore.call.Goals as goal

pub call-requires-clause-room : goal.call-requires-clause-room
call-requires-clause-room g c = let m = g.D.Disk in subst (λ (h : Hall). AreSessions c.args.touched.now h) (sym (hall_inside m.crashes m.seen m.images m.moment m.left_since m.faults _ _ c.in-Inside.core c.begin.ensures.place c.in-Inside.is)) c.requires.room

pub returns-in-Inside-clause-named : goal.returns-in-Inside-clause-named
returns-in-Inside-clause-named g c = let m = g.D.Disk in subst (λ (h : Hall). NamesChanged c.call.new.touched h (hall_of c.call.new.self)) (hall_inside m.crashes m.seen m.images m.moment m.left_since m.faults _ _ c.in-Inside.core c.begin.ensures.place c.in-Inside.is) c.call.ensures.named

pub returns-in-Inside-clause-act : goal.returns-in-Inside-clause-act
returns-in-Inside-clause-act g c = let m = g.D.Disk in let e = c.call.ensures in
    does_inside m.crashes m.seen m.images m.moment m.left_since m.faults c.args.self.now.place c.begin.new.self.place c.in-Inside.core c.call.new.self (event.Call c.args.session c.args.moment c.args.asked.now) (outcome.Answered c.call.result) c.begin.ensures.place c.in-Inside.is
    refl e.step (λ _. writing_is c.call.new.self _ _ e.rewriting e.generation) (λ is. e.cause (call_failed c.call.result is)) e.later e.told e.log (fed_mirrored m.crashes m.seen m.images c.in-Inside.core c.call.new.self e.generation e.written)

pub returns-in-Out-clause-act : goal.returns-in-Out-clause-act
returns-in-Out-clause-act g c = let m = g.D.Disk in
    does_nothing m.crashes m.seen m.images m.moment m.left_since m.faults c.args.self.now.place c.begin.new.self.place _ (event.Call c.args.session c.args.moment c.args.asked.now) c.begin.ensures.place c.in-Out.is refl refl
    (λ d. record { counts_now = g.met.D.Disk.counts_now d; only_now = g.met.D.Disk.only_now d })
