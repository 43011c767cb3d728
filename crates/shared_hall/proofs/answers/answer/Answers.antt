use Rattle.std.proofs.Common.{[], sym, subst}
use Rattle.world_model.specs.Outcomes.{enter_outcome}
use Rattle.world_model.specs.declared.events.Event.TheVariants as event
use Rattle.world_model.specs.declared.events.Outcome.TheVariants as outcome
use Rattle.shared_hall.specs.Cores.{disk_in, TurnsBy}
use Rattle.shared_hall.specs.Turns.{acts, note_by, retire_outcome}
use Rattle.shared_hall.specs.declared.works.HallAnswer.TheVariants as given
use Rattle.shared_hall.specs.declared.works.HallWork.{HallWork}
use Rattle.shared_hall.proofs.Turning.{acts_alone}
use Rattle.shared_hall.proofs.answers.answer.Goals as goal

pub returns-in-Enter-clause-turn : goal.returns-in-Enter-clause-turn
returns-in-Enter-clause-turn g c = let m = g.D.Disk in
    subst (λ (w : HallWork). TurnsBy m.crashes m.seen m.images m.moment m.left_since m.faults (acts w (given.Entered c.enter.result)) (note_by w (given.Entered c.enter.result)) (disk_in c.enter.new.self.before.value) c.args.core.now.place c.enter.new.self.place) (sym c.in-Enter.is)
    (acts_alone m.crashes m.seen m.images m.moment m.left_since m.faults (event.Enter, enter_outcome c.enter.result) [] c.args.core.now.place c.enter.new.self.place c.enter.new.self.before.value c.enter.ensures.before c.enter.ensures.act)

pub returns-in-Call-clause-turn : goal.returns-in-Call-clause-turn
returns-in-Call-clause-turn g c = let m = g.D.Disk in
    subst (λ (w : HallWork). TurnsBy m.crashes m.seen m.images m.moment m.left_since m.faults (acts w (c.answer_call.result)) (note_by w (c.answer_call.result)) (disk_in c.answer_call.new.core.before.value) c.args.core.now.place c.answer_call.new.core.place) (sym c.in-Call.is)
    (c.answer_call.ensures.turn)

pub returns-in-Take-clause-turn : goal.returns-in-Take-clause-turn
returns-in-Take-clause-turn g c = let m = g.D.Disk in
    subst (λ (w : HallWork). TurnsBy m.crashes m.seen m.images m.moment m.left_since m.faults (acts w (c.answer_take.result)) (note_by w (c.answer_take.result)) (disk_in c.answer_take.new.core.before.value) c.args.core.now.place c.answer_take.new.core.place) (sym c.in-Take.is)
    (c.answer_take.ensures.turn)

pub returns-in-Tick-clause-turn : goal.returns-in-Tick-clause-turn
returns-in-Tick-clause-turn g c = let m = g.D.Disk in
    subst (λ (w : HallWork). TurnsBy m.crashes m.seen m.images m.moment m.left_since m.faults (acts w (c.answer_tick.result)) (note_by w (c.answer_tick.result)) (disk_in c.answer_tick.new.core.before.value) c.args.core.now.place c.answer_tick.new.core.place) (sym c.in-Tick.is)
    (c.answer_tick.ensures.turn)

pub returns-in-Close-clause-turn : goal.returns-in-Close-clause-turn
returns-in-Close-clause-turn g c = let m = g.D.Disk in
    subst (λ (w : HallWork). TurnsBy m.crashes m.seen m.images m.moment m.left_since m.faults (acts w (given.Done)) (note_by w (given.Done)) (disk_in c.close.new.self.before.value) c.args.core.now.place c.close.new.self.place) (sym c.in-Close.is)
    (acts_alone m.crashes m.seen m.images m.moment m.left_since m.faults (event.Close _, outcome.Done) [] c.args.core.now.place c.close.new.self.place c.close.new.self.before.value c.close.ensures.before c.close.ensures.act)

pub returns-in-Remove-clause-turn : goal.returns-in-Remove-clause-turn
returns-in-Remove-clause-turn g c = let m = g.D.Disk in
    subst (λ (w : HallWork). TurnsBy m.crashes m.seen m.images m.moment m.left_since m.faults (acts w (given.Done)) (note_by w (given.Done)) (disk_in c.remove.new.self.before.value) c.args.core.now.place c.remove.new.self.place) (sym c.in-Remove.is)
    (acts_alone m.crashes m.seen m.images m.moment m.left_since m.faults (event.Remove _, outcome.Done) [] c.args.core.now.place c.remove.new.self.place c.remove.new.self.before.value c.remove.ensures.before c.remove.ensures.act)

pub returns-in-StepRewrite-clause-turn : goal.returns-in-StepRewrite-clause-turn
returns-in-StepRewrite-clause-turn g c = let m = g.D.Disk in
    subst (λ (w : HallWork). TurnsBy m.crashes m.seen m.images m.moment m.left_since m.faults (acts w (given.Rewrote c.step_rewrite-called.result.0 c.step_rewrite-called.result.1)) (note_by w (given.Rewrote c.step_rewrite-called.result.0 c.step_rewrite-called.result.1)) (disk_in c.step_rewrite-called.new.self.before.value) c.args.core.now.place c.step_rewrite-called.new.self.place) (sym c.in-StepRewrite.is)
    (acts_alone m.crashes m.seen m.images m.moment m.left_since m.faults (event.Rewrite, outcome.Answered c.step_rewrite-called.result.0) [] c.args.core.now.place c.step_rewrite-called.new.self.place c.step_rewrite-called.new.self.before.value c.step_rewrite-called.ensures.before c.step_rewrite-called.ensures.act)

pub returns-in-Part-clause-turn : goal.returns-in-Part-clause-turn
returns-in-Part-clause-turn g c = let m = g.D.Disk in
    subst (λ (w : HallWork). TurnsBy m.crashes m.seen m.images m.moment m.left_since m.faults (acts w (c.answer_part.result)) (note_by w (c.answer_part.result)) (disk_in c.answer_part.new.core.before.value) c.args.core.now.place c.answer_part.new.core.place) (sym c.in-Part.is)
    (c.answer_part.ensures.turn)

pub returns-in-Retire-clause-turn : goal.returns-in-Retire-clause-turn
returns-in-Retire-clause-turn g c = let m = g.D.Disk in
    subst (λ (w : HallWork). TurnsBy m.crashes m.seen m.images m.moment m.left_since m.faults (acts w (given.Retired c.retire.result)) (note_by w (given.Retired c.retire.result)) (disk_in c.retire.new.self.before.value) c.args.core.now.place c.retire.new.self.place) (sym c.in-Retire.is)
    (acts_alone m.crashes m.seen m.images m.moment m.left_since m.faults (event.Retire, retire_outcome c.retire.result) [] c.args.core.now.place c.retire.new.self.place c.retire.new.self.before.value c.retire.ensures.before c.retire.ensures.act)
