use Rattle.world_model.specs.declared.events.Event.TheVariants as event
use Rattle.world_model.specs.declared.events.Outcome.TheVariants as outcome
use Rattle.repl_stream.specs.Feeds.{called_of}
use Rattle.shared_hall.specs.Fed.{note_in}
use Rattle.shared_hall.proofs.Turning.{acts_alone}
use Rattle.shared_hall.proofs.answers.answer_part.Goals as goal

pub returns-clause-turn : goal.returns-clause-turn
returns-clause-turn g c = let m = g.D.Disk in
    acts_alone m.crashes m.seen m.images m.moment m.left_since m.faults (event.Rewrite, outcome.Answered (called_of c.log_part-given.result)) (note_in c.args.asking.ask c.log_part-given.result c.log_part-given.new.into) c.args.core.now.place c.log_part-given.new.self.place c.log_part-given.new.self.before.value c.log_part-given.ensures.before c.log_part-given.ensures.act
