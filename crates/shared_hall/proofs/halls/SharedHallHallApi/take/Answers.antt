use Rattle.shared_hall.specs.Seats.{first_writing, handed_of}
use Rattle.shared_hall.proofs.AnswerKinds.{taken, taken_out, taken_places}
use Rattle.shared_hall.proofs.halls.SharedHallHallApi.take.Goals as goal

pub returns-clause-places : goal.returns-clause-places
returns-clause-places g c = let m = g.D.Disk in (taken_places m.crashes m.seen m.images m.moment m.left_since m.faults (handed_of c.args.self.now) (first_writing c.args.self.now) _ _ _ _ _ _ c.in-Taken.is c.turn.ensures.done).1

pub returns-clause-count : goal.returns-clause-count
returns-clause-count g c = let m = g.D.Disk in (taken_places m.crashes m.seen m.images m.moment m.left_since m.faults (handed_of c.args.self.now) (first_writing c.args.self.now) _ _ _ _ _ _ c.in-Taken.is c.turn.ensures.done).0

pub returns-clause-entry : goal.returns-clause-entry
returns-clause-entry g c = let m = g.D.Disk in taken m.crashes m.seen m.images m.moment m.left_since m.faults (handed_of c.args.self.now) (first_writing c.args.self.now) _ _ _ _ _ _ c.in-Taken.is c.turn.ensures.done

pub unreachable-requires : goal.unreachable-requires
unreachable-requires g c = let m = g.D.Disk in let k = taken_out m.crashes m.seen m.images m.moment m.left_since m.faults (handed_of c.args.self.now) (first_writing c.args.self.now) _ _ _ _ c.turn.ensures.done in c.in_default.not-Taken k.0 k.1 k.2
