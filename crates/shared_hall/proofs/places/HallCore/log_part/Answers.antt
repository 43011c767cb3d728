use Rattle.std.proofs.Common.{refl, subst, sym, ◌∙◌}
use Rattle.world_model.specs.declared.events.Event.TheVariants as event
use Rattle.world_model.specs.declared.events.Outcome.TheVariants as outcome
use Rattle.durable_core.specs.HistoryLaws.{step_written}
use Rattle.durable_core.specs.Logged.{hall_of}
use Rattle.repl_stream.specs.Feeds.{called_of}
use Rattle.log_record.specs.AnswerLaws.{call_failed}
use Rattle.shared_hall.specs.Cores.{KeepsIn}
use Rattle.shared_hall.specs.Fed.{note_in}
use Rattle.shared_hall.specs.declared.places.Place.{Place}
use Rattle.shared_hall.proofs.Acting.{does_noted, does_nothing}
use Rattle.shared_hall.proofs.Growing.{fed_part, noted_ok, part_given}
use Rattle.shared_hall.proofs.places.HallCore.log_part.Goals as goal

pub returns-in-Inside-clause-act : goal.returns-in-Inside-clause-act
returns-in-Inside-clause-act g c = let m = g.D.Disk in let e = c.log_part.ensures in
    let ask = c.args.ask in
    let a = c.log_part.result in
    let into = c.log_part.new.into in
    let core = c.in-Inside.core in
    let new = c.log_part.new.self in
    does_noted m.crashes m.seen m.images m.moment m.left_since m.faults c.args.self.now.place c.begin.new.self.place c.in-Inside.core c.log_part.new.self (event.Rewrite) (outcome.Answered (called_of c.log_part.result)) (note_in ask a into) c.begin.ensures.place c.in-Inside.is
    refl e.step (step_written c.in-Inside.core c.log_part.new.self (called_of c.log_part.result) e.writes) (λ is. e.cause (call_failed (called_of c.log_part.result) is)) e.later e.told e.log
    (noted_ok (hall_of core) (hall_of new) ask a into e.step) (fed_part m.crashes m.seen m.images core new ask into c.ask_fits.ensures a e.step e.written e.part e.whole e.writes e.unmoved)

pub returns-in-Inside-clause-part : goal.returns-in-Inside-clause-part
returns-in-Inside-clause-part g c j kept = let m = g.D.Disk in let e = c.log_part.ensures in
    part_given m.crashes m.seen m.images c.in-Inside.core c.log_part.new.self c.args.ask c.log_part.new.into c.ask_fits.ensures c.log_part.result e.step e.written e.part e.whole j
    (subst (λ (p : Place _). KeepsIn m.crashes m.seen m.images p j) (sym c.begin.ensures.place ∙ c.in-Inside.is) kept)

pub returns-in-Out-clause-act : goal.returns-in-Out-clause-act
returns-in-Out-clause-act g c = let m = g.D.Disk in
    does_nothing m.crashes m.seen m.images m.moment m.left_since m.faults c.args.self.now.place c.begin.new.self.place _ (event.Rewrite) c.begin.ensures.place c.in-Out.is refl refl
    (λ d. record { counts_now = g.met.D.Disk.counts_now d; only_now = g.met.D.Disk.only_now d })
