use Rattle.shared_hall.specs.Seats.{first_writing, handed_of}
use Rattle.shared_hall.proofs.AnswerKinds.{removed}
use Rattle.shared_hall.proofs.halls.SharedHallHallApi.remove.Goals as goal

pub returns-clause-entry : goal.returns-clause-entry
returns-clause-entry g c = let m = g.D.Disk in removed m.crashes m.seen m.images m.moment m.left_since m.faults (handed_of c.args.self.now) (first_writing c.args.self.now) _ _ _ _ c.turn.ensures.done
