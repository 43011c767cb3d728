use Rattle.std.proofs.Common.{[]}
use Rattle.world_model.specs.declared.events.Event.TheVariants as event
use Rattle.world_model.specs.declared.events.Outcome.TheVariants as outcome
use Rattle.shared_hall.proofs.Turning.{acts_alone}
use Rattle.shared_hall.proofs.answers.answer_tick.Goals as goal

pub returns-clause-turn : goal.returns-clause-turn
returns-clause-turn g c = let m = g.D.Disk in
    acts_alone m.crashes m.seen m.images m.moment m.left_since m.faults (event.Tick c.args.ticking.moment, outcome.Answered c.tick-called.result) [] c.args.core.now.place c.tick-called.new.self.place c.tick-called.new.self.before.value c.tick-called.ensures.before c.tick-called.ensures.act
