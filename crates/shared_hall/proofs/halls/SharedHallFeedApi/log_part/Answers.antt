use Rattle.shared_hall.specs.Seats.{first_writing, handed_of}
use Rattle.shared_hall.proofs.AnswerKinds.{parted, parted_answers, parted_out}
use Rattle.shared_hall.proofs.halls.SharedHallFeedApi.log_part.Goals as goal

pub returns-clause-entry : goal.returns-clause-entry
returns-clause-entry g c = let m = g.D.Disk in parted m.crashes m.seen m.images m.moment m.left_since m.faults (handed_of c.args.self.now) (first_writing c.args.self.now) _ _ _ _ _ _ c.in-Parted.is c.turn.ensures.done

pub returns-clause-part : goal.returns-clause-part
returns-clause-part g c = let m = g.D.Disk in parted_answers m.crashes m.seen m.images m.moment m.left_since m.faults (handed_of c.args.self.now) (first_writing c.args.self.now) _ _ _ _ _ _ c.in-Parted.is c.turn.ensures.done

pub unreachable-requires : goal.unreachable-requires
unreachable-requires g c = let m = g.D.Disk in let k = parted_out m.crashes m.seen m.images m.moment m.left_since m.faults (handed_of c.args.self.now) (first_writing c.args.self.now) _ _ _ _ c.turn.ensures.done in c.in_default.not-Parted k.0 k.1 k.2
