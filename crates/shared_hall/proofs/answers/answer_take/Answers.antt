use Rattle.std.proofs.Common.{[]}
use Rattle.world_model.specs.Outcomes.{take_outcome}
use Rattle.world_model.specs.declared.events.Event.TheVariants as event
use Rattle.shared_hall.proofs.Turning.{acts_alone}
use Rattle.shared_hall.proofs.answers.answer_take.Goals as goal

pub returns-clause-turn : goal.returns-clause-turn
returns-clause-turn g c = let m = g.D.Disk in
    acts_alone m.crashes m.seen m.images m.moment m.left_since m.faults (event.Take c.args.taking.session, take_outcome c.take-taken.result c.take-taken.new.into.list) [] c.args.core.now.place c.take-taken.new.self.place c.take-taken.new.self.before.value c.take-taken.ensures.before c.take-taken.ensures.act
